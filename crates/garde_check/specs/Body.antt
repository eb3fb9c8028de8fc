-- The visits of a request's body, and the one tree that it has.
use Rattle.std.specs.Prelude.{ℕ, List, [], ◌∷◌, Option, map, String, Vec}
use Rattle.std.specs.declared.alloc.Global.{Global}
use Rattle.std.specs.BTreeMap.{BTreeMap}
use Rattle.garde.specs.Fields.{◌and◌, alphanumeric, at_most, between, chars, codes, each, each_value, field, Fault, ip, is, items, key_part, of_option, range, required, slice, str, text_key, Any, Visits}
use Rattle.garde.specs.Tree.{Tree, nothing, under, ◌then◌, found_tree}
use Rattle.garde_check.specs.declared.body.Address.{Address}
use Rattle.garde_check.specs.declared.body.Body.{Body}
use Rattle.garde_check.specs.User.{user_visits, named_tree}
use Rattle.garde_check.specs.Users.{items_tree}

-- the fault of an age that is there, and is below 18 or above 120
abbrev pub age_fault : Option ℕ → Option Fault
age_fault age = of_option (λ years. range (between 18 120) years) age

-- the rule that the text is an IP address
abbrev pub address_visits : Address → Visits
address_visits address = is (ip Any (str address.0))

-- the rule that each character of a tag is a letter or a number, and then that there are 1 to 20
abbrev pub tag_visits : String Global → Visits
tag_visits tag = is (alphanumeric (str tag)) and is (chars (between 1 20) (str tag))

-- The user, with no component of its own. Then under the key `age` the rules that there is an age,
-- and that it is at least 18 and at most 120; under the key `tags` the rule that there are at most 5,
-- and each tag under its index; under the key `addresses` each address under its name.
abbrev pub body_visits : Body → Visits
body_visits body =
    user_visits body.user
    and field "age" (is (required body.age) and is (age_fault body.age))
    and field "tags" (is (items (at_most 5) (slice body.tags)) and each tag_visits (slice body.tags))
    and field "addresses" (each_value text_key address_visits body.addresses.entries)

-- what a body says
pub record Content : Type 0 where
  pub username : List ℕ
  pub age : Option ℕ
  pub tags : List (List ℕ)
  -- each name with its text
  pub addresses : List (List ℕ × List ℕ)

-- the texts of a list
abbrev pub texts_of : Vec (String Global) Global → List (List ℕ)
texts_of texts = map str texts.items

-- the names and texts of addresses
abbrev pub entries_of : BTreeMap (String Global) Address → List (List ℕ × List ℕ)
entries_of addresses = map (λ e. (str e.0, str e.1.0)) addresses.entries

abbrev pub content : Body → Content
content body = record {
  username = str body.user.username;
  age = body.age;
  tags = texts_of body.tags;
  addresses = entries_of body.addresses;
}

-- what the rules find of a tag
abbrev pub tag_tree : List ℕ → Tree
tag_tree tag = found_tree (alphanumeric tag) then found_tree (chars (between 1 20) tag)

-- what the rule finds of the text of an address
abbrev pub address_tree : List ℕ → Tree
address_tree text = found_tree (ip Any text)

-- each address under its name
abbrev pub addresses_tree : List (List ℕ × List ℕ) → Tree
addresses_tree [] = nothing
addresses_tree (e ∷ es) = under (key_part e.0) (address_tree e.1) (addresses_tree es)

-- the tree of a body: the step of its user, and then one for each of the keys `age`, `tags` and
-- `addresses`
abbrev pub body_tree : Content → Tree
body_tree body =
    named_tree body.username
    then under (key_part (codes "age")) (found_tree (required body.age) then found_tree (age_fault body.age))
    (under (key_part (codes "tags")) (found_tree (items (at_most 5) body.tags) then items_tree tag_tree 0 body.tags)
    (under (key_part (codes "addresses")) (addresses_tree body.addresses) nothing))
