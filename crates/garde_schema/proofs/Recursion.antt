-- Lemmas on objects that hold objects of the same form.
use Rattle.std.proofs.Common.{◌≡◌, ℕ, zero, suc, ◌<◌, ◌≤◌, Bool, true, false, nat_lt, T, ltb→lt, lt→ltb, List, [], ◌∷◌, cond, Option, Some, None, Result, Ok, Err, refl, ap, sym, subst, ◌∙◌, arith}
use Rattle.std.proofs.lemmas.List.Elements.{All-nil, All-cons, All-head, All-tail}
use Rattle.std.specs.List.{All}
use Rattle.std.specs.Prelude.{IfSome, option_map, option_and_then, if◌then◌else◌}
use Rattle.std.specs.Str.{bytes_eq}
use Rattle.json.specs.Json.{Json, null, boolean, number, string, array, object, Items, no_items, item, Members, no_members, member}
use Rattle.json.specs.Find.{later_or, get_member, get}
use Rattle.json.specs.Tree.{depth, items_depth, members_depth}
use Rattle.garde_i18n.specs.Datum.{Datum}
use Rattle.garde_report.specs.Part.{key_part}
use Rattle.garde_report.specs.Report.{Entry}
use Rattle.garde_report.specs.Trace.{Trace}
use Rattle.garde_tape.specs.Reading.{item_list}
use Rattle.garde_tape.specs.Look.{answer_of, find_answer, times}
use Rattle.garde_tape.specs.declared.found.Found.{Found}
use Rattle.garde_tape.specs.declared.found.Found.TheVariants.{Missing, Once, Repeated}
use Rattle.garde.specs.Visits.{Visits, Visited, Known, none, ◌and◌, under}
use Rattle.garde.specs.Nest.{recursive_visits, child_visits}
use Rattle.garde.proofs.Author.{visited_none, known_level, known_within}
use Rattle.garde_schema.specs.declared.fault.FormFault.{FormFault}
use Rattle.garde_schema.specs.declared.fault.FormFault.TheVariants as faults
use Rattle.garde_schema.specs.Forms.{both, formed, refused, Sound, FormTexts}
use Rattle.garde_schema.specs.Lists.{all_values, each_item, list_of}
use Rattle.garde_schema.specs.Nested.{listed, list_found, list_in, list_visits, right_list, below, below_visits, below_value, made_of, level_visits, level_value, value_to_depth, recursive_value, child_value, KeptTo, Kept}
use Rattle.garde_schema.proofs.Lemmas.{refused_is_fault}

-- ---- a value in another one nests less deep

-- a value that nests at most so deep, if any
abbrev AtMost : ℕ → Option Json → Type 0
AtMost n o = IfSome o (λ j. depth j ≤ n)

later_or_at_most : (n : ℕ) (a b : Option Json) → AtMost n a → AtMost n b → AtMost n (later_or a b)
later_or_at_most n None b p q = q
later_or_at_most n (Some j) b p q = p

cond_at_most : (n : ℕ) (c : Bool) (j : Json) → depth j ≤ n → AtMost n (cond c (Some j) None)
cond_at_most n true j p = p
cond_at_most n false j p = tt

more : (n m : ℕ) (o : Option Json) → n ≤ m → AtMost n o → AtMost m o
more n m None le p = tt
more n m (Some j) le p = omega arith

member_at_most : (name : List ℕ) (ms : Members) → AtMost (members_depth ms) (get_member name ms)
member_at_most name no_members = tt
member_at_most name (member k j ms) =
    later_or_at_most _ (get_member name ms) (cond (bytes_eq k name) (Some j) None)
    (more (members_depth ms) _ (get_member name ms) (omega arith) (member_at_most name ms))
    (cond_at_most _ (bytes_eq k name) j (omega arith))

got_less : (name : List ℕ) (j v : Json) → get name j ≡ Some v → depth v < depth j
got_less name null v is = cc
got_less name (boolean b) v is = cc
got_less name (number s) v is = cc
got_less name (string s) v is = cc
got_less name (array js) v is = cc
got_less name (object ms) v is = let small = subst (AtMost (members_depth ms)) is (member_at_most name ms) in omega (arith, small)

cond_once : (b : Bool) (x v : Json) → cond b Repeated (Once x) ≡ Once v → Some x ≡ Some v
cond_once true x v is = cc
cond_once false x v is = cc

once_got : (n : ℕ) (o : Option Json) (v : Json) → answer_of n o ≡ Once v → o ≡ Some v
once_got n None v is = cc
once_got n (Some x) v is = cond_once (nat_lt 1 n) x v is

items_less : (n : ℕ) (js : Items) → items_depth js < n → All (λ x. depth x < n) (item_list js)
items_less n no_items less = All-nil (λ x. depth x < n)
items_less n (item j js) less = All-cons (λ x. depth x < n) j (item_list js) (omega (arith, less)) (items_less n js (omega (arith, less)))

listed_less : (n : ℕ) (v : Json) (js : List Json) → depth v < n → listed v (list_of v) ≡ Ok js → All (λ x. depth x < n) js
listed_less n null js less is = cc
listed_less n (boolean b) js less is = cc
listed_less n (number s) js less is = cc
listed_less n (string s) js less is = cc
listed_less n (array all) js less is = let same : item_list all ≡ js = cc in subst (λ xs. All (λ x. depth x < n) xs) same (items_less n all (omega (arith, less)))
listed_less n (object ms) js less is = cc

found_less : (n : ℕ) (f : Found) (js : List Json) → ((v : Json) → f ≡ Once v → depth v < n) → list_found f ≡ Ok js → All (λ x. depth x < n) js
found_less n Missing js less is = cc
found_less n (Once v) js less is = listed_less n v js (less v refl) is
found_less n Repeated js less is = cc

in_less : (name : List ℕ) (j : Json) (js : List Json) → list_in name j ≡ Ok js → All (λ x. depth x < depth j) js
in_less name j js is = found_less (depth j) (find_answer name j) js (λ v found. got_less name j v (once_got (times name j) (get name j) v found)) is

right_less : (P : List Json → Type 0) (r : Result (List Json) FormFault) (js : List Json) → ((xs : List Json) → r ≡ Ok xs → P xs) → right_list r ≡ Some js → P js
right_less P (Ok xs) js each is = subst (λ o. IfSome o P) is (each xs refl)
right_less P (Err fault) js each is = cc

-- each object in an object nests less deep than it
pub below_less : (name : List ℕ) (j : Json) (js : List Json) → below name j ≡ Some js → All (λ x. depth x < depth j) js
below_less name j js is = right_less (λ xs. All (λ x. depth x < depth j) xs) (list_in name j) js (in_less name j) is

-- ---- the value of one that holds others

if_same : {A : Type 0} (b : Bool) (a c : Option A) → (b ≡ true → a ≡ c) → (if b then a else None) ≡ (if b then c else None)
if_same true a c same = same refl
if_same false a c same = refl

holds : (b : Bool) → T b → b ≡ true
holds true h = refl
holds false h = absurd h

less : (m n : ℕ) → nat_lt m n ≡ true → m < n
less m n is = ltb→lt m n (subst T (sym is) tt)

is_less : (m n : ℕ) → m < n → nat_lt m n ≡ true
is_less m n lt = holds (nat_lt m n) (lt→ltb m n lt)

module _ {A B : Type 0} (level : (A → Option B) → A → Option B) (size : A → ℕ) where
  -- any depth beyond the size gives the same
  enough : (m n : ℕ) (v : A) → size v < m → size v < n → value_to_depth level size m v ≡ value_to_depth level size n v
  unfolding value_to_depth
  enough zero n v deep far = absurd (omega (arith, deep))
  enough (suc m) zero v deep far = absurd (omega (arith, far))
  enough (suc m) (suc n) v deep far = λ i. level (λ x. if_same (nat_lt (size x) (size v)) (value_to_depth level size m x) (value_to_depth level size n x) (λ is. let lt = less _ _ is in enough m n x (omega (arith, lt, deep)) (omega (arith, lt, far))) i) v

  -- the value is that of its level
  pub recursive_value_is : (v : A) → recursive_value level size v ≡ level (child_value level size v) v
  unfolding recursive_value value_to_depth child_value
  recursive_value_is v = λ i. level (λ x. if_same (nat_lt (size x) (size v)) (value_to_depth level size (size v) x) (recursive_value level size x) (λ is. let lt = less _ _ is in enough (size v) (suc (size x)) x lt (omega arith)) i) v

  -- the value of one in this one is its own value
  pub child_value_is : (v x : A) → size x < size v → child_value level size v x ≡ recursive_value level size x
  unfolding child_value
  child_value_is v x smaller = ap (λ b. if b then recursive_value level size x else None) (is_less _ _ smaller)

-- ---- what is known

sound_as : {A : Type 0} (a b : Visits) (keeps : A → Type 0) (o : Option A) → (Known b → Known a) → Sound a keeps o → Sound b keeps o
sound_as a b keeps (Some x) known sound = λ k. sound (known k)
sound_as a b keeps None known sound = λ k. sound (known k)

module _ {A B : Type 0} (visits : (A → Visits) → A → Visits) (value : (A → Option B) → A → Option B) (size : A → ℕ) (keeps : B → Type 0) where
  -- a level is sound, and so is what holds others
  pub sound_recursive : (v : A) → Sound (visits (child_visits visits size v) v) keeps (value (child_value value size v) v) → Sound (recursive_visits visits size v) keeps (recursive_value value size v)
  sound_recursive v sound = subst (λ o. Sound (recursive_visits visits size v) keeps o) (sym (recursive_value_is value size v)) (sound_as (visits (child_visits visits size v) v) (recursive_visits visits size v) keeps (value (child_value value size v) v) (known_level visits size v) sound)

  -- the same of one in another one
  pub sound_child : (v x : A) → size x < size v → Sound (recursive_visits visits size x) keeps (recursive_value value size x) → Sound (child_visits visits size v x) keeps (child_value value size v x)
  sound_child v x smaller sound = subst (λ o. Sound (child_visits visits size v x) keeps o) (sym (child_value_is value size v x smaller)) (sound_as (recursive_visits visits size x) (child_visits visits size v x) keeps (recursive_value value size x) (known_within visits size v x smaller) sound)

all_at : {A : Type 0} (P : ℕ → A → Type 0) (n : ℕ) (xs : List A) → All (λ x. (m : ℕ) → P m x) xs → All (λ x. P n x) xs
all_at P n [] all = All-nil (λ x. P n x)
all_at P n (x ∷ xs) all = All-cons (λ x. P n x) x xs (All-head (λ y. (m : ℕ) → P m y) x xs all n) (all_at P n xs (All-tail (λ y. (m : ℕ) → P m y) x xs all))

module _ {A B : Type 0} (keeps : A → Type 0) (parts_of : B → A × List B) (builds : A → List B → B) (kept : (own : A) (values : List B) → parts_of (builds own values) ≡ (own, values)) where
  -- what is known of the parts is known of what is made of them
  kept_made : (own : A) (values : List B) → keeps own → All (λ x. Kept keeps parts_of x) values → Kept keeps parts_of (builds own values)
  unfolding KeptTo
  kept_made own values known all zero = tt
  kept_made own values known all (suc n) = subst (λ (p : A × List B). keeps p.0 × All (λ x. KeptTo keeps parts_of n x) p.1) (sym (kept own values)) (known, all_at (KeptTo keeps parts_of) n values all)

  -- an object is sound where its own members are, and the objects in it
  sound_parts : (name : List ℕ) (a rest : Visits) (child : Json → Visits) (value : Json → Option B) (own : Option A) (js : Option (List Json)) → Sound a (λ parts. keeps parts.0) (both own js) → IfSome js (λ xs. Sound (each_item child xs) (λ out. All (λ x. Kept keeps parts_of x) out) (all_values value xs)) → Sound (a and below_visits name child js and rest) (Kept keeps parts_of) (made_of builds own (below_value value js))
  unfolding Known ◌and◌ under
  sound_parts name a rest child value (Some x) (Some js) one two = with_values (all_values value js) two
    where
      with_values : (o : Option (List B)) → Sound (each_item child js) (λ out. All (λ x. Kept keeps parts_of x) out) o → Sound (a and below_visits name child (Some js) and rest) (Kept keeps parts_of) (made_of builds (Some x) o)
      with_values (Some xs) two = λ known. kept_made x xs (one known.0) (two known.1.0)
      with_values None two = λ known. two known.1.0
  sound_parts name a rest child value (Some x) None one two = λ known. one known.0
  sound_parts name a rest child value None js one two = λ known. one known.0

  -- so is one whose level was read
  pub sound_made : (name : List ℕ) (first last : Json → Visits) (own : Json → Option A) (j : Json) → Sound (first j) (λ parts. keeps parts.0) (both (own j) (below name j))
      → IfSome (below name j) (λ js. Sound (each_item (child_visits (level_visits name first last) depth j) js) (λ out. All (λ x. Kept keeps parts_of x) out) (all_values (child_value (level_value name own builds) depth j) js))
      → Sound (recursive_visits (level_visits name first last) depth j) (Kept keeps parts_of) (recursive_value (level_value name own builds) depth j)
  sound_made name first last own j one two = sound_recursive (level_visits name first last) (level_value name own builds) depth (Kept keeps parts_of) j
      (sound_parts name (first j) (last j) (child_visits (level_visits name first last) depth j) (child_value (level_value name own builds) depth j) (own j) (below name j) one two)

-- ---- an object's own members and its list

sound_list : {A : Type 0} (name : List ℕ) (texts : FormTexts) (a : Visits) (keeps : A → Type 0) (own : Option A) (c : Result (List Json) FormFault) → Sound a keeps own → Sound (a and list_visits name texts c) (λ parts. keeps parts.0) (both own (right_list c))
unfolding Known ◌and◌ under
sound_list name texts a keeps (Some x) (Ok js) sound = λ known. sound known.0
sound_list name texts a keeps (Some x) (Err fault) sound = λ known. refused_is_fault (texts fault) known.1
sound_list name texts a keeps None c sound = λ known. sound known.0

-- an object's own members were read
pub sound_begun : {A C : Type 0} (message name : List ℕ) (texts : FormTexts) (a : Visits) (keeps : A → Type 0) (own : Option A) (c : Result (List Json) FormFault) (o : Option C) → Sound a keeps own → Sound (formed message (λ _. a and list_visits name texts c) o) (λ parts. keeps parts.0) (both (option_and_then (λ _. own) o) (right_list c))
sound_begun message name texts a keeps own c (Some x) sound = sound_list name texts a keeps own c sound
sound_begun message name texts a keeps own c None sound = refused_is_fault message

-- what is no object has a fault
pub sound_no_object : {A C D : Type 0} (message name : List ℕ) (texts : FormTexts) (a : Visits) (keeps : A → Type 0) (own : Option A) (c : Result (List Json) FormFault) (f : C → D) (o : Option C) {seen : Option D} → seen ≡ None → seen ≡ option_map f o → Sound (formed message (λ _. a and list_visits name texts c) o) (λ parts. keeps parts.0) (both (option_and_then (λ _. own) o) (right_list c))
sound_no_object message name texts a keeps own c f None none is = refused_is_fault message
sound_no_object message name texts a keeps own c f (Some x) none is = let never : None ≡ Some (f x) = sym none ∙ is in cc

-- ---- the list in an object

-- what is found is this
pub if_some_is : {A : Type 0} (P : A → Type 0) {seen : Option A} {x : A} → seen ≡ Some x → IfSome seen P → P x
if_some_is P is holds = subst (λ o. IfSome o P) is holds

pub below_is : {A B : Type 0} (f : A → B) {seen : Option A} {x : A} {o : Option B} → seen ≡ Some x → option_map f seen ≡ o → o ≡ Some (f x)
below_is f some is = sym is ∙ ap (λ s. option_map f s) some

-- what holds of the first item, and of the others
pub first_less : {A : Type 0} (P : A → Type 0) {left : List A} {x : A} {xs : List A} → left ≡ x ∷ xs → All P left → P x
first_less P {x = x} {xs} step all = All-head P x xs (subst (λ l. All P l) step all)

pub rest_less : {A : Type 0} (P : A → Type 0) {left : List A} {x : A} {xs : List A} → left ≡ x ∷ xs → All P left → All P xs
rest_less P {x = x} {xs} step all = All-tail P x xs (subst (λ l. All P l) step all)

pub made_same : {A B : Type 0} (builds : A → List B → B) {own other : Option A} {values others : Option (List B)} → own ≡ other → values ≡ others → made_of builds own values ≡ made_of builds other others
made_same builds {other = other} {values = values} one two = ap (λ o. made_of builds o values) one ∙ ap (λ v. made_of builds other v) two

-- ---- visits

module _ {text : Datum → List ℕ} {E : Type 0} where
  -- an object has no list
  pub below_none : {A : Type 0} (name : List ℕ) (child : Json → Visits) (f : A → List Json) (o : Option (List Json)) {seen : Option A} {walk : Trace} {old : List Entry} → seen ≡ None → option_map f seen ≡ o → Visited {E = E} (below_visits name child o) text walk walk old old (Ok tt)
  below_none name child f o {walk = walk} {old} none is = subst (λ z. Visited {E = E} (below_visits name child z) text walk walk old old (Ok tt)) (sym (ap (λ s. option_map f s) none) ∙ is) visited_none

  -- it has this one
  pub below_some : {A : Type 0} (name : List ℕ) (child : Json → Visits) (f : A → List Json) (o : Option (List Json)) {seen : Option A} {x : A} {before after : Trace} {old new : List Entry} {result : Result Unit E} → seen ≡ Some x → option_map f seen ≡ o → Visited (under (key_part name) (each_item child (f x))) text before after old new result → Visited (below_visits name child o) text before after old new result
  below_some name child f o {before = before} {after} {old} {new} {result} some is told = subst (λ z. Visited (below_visits name child z) text before after old new result) (sym (ap (λ s. option_map f s) some) ∙ is) told

  -- an object was seen
  pub told_object : {A C : Type 0} (message : List ℕ) (a : Visits) (f : A → C) (o : Option A) {seen : Option C} {x : C} {before after : Trace} {old new : List Entry} {result : Result Unit E} → seen ≡ Some x → seen ≡ option_map f o → Visited a text before after old new result → Visited (formed message (λ _. a) o) text before after old new result
  told_object message a f (Some y) some is told = told
  told_object message a f None {x = x} some is told = let never : Some x ≡ None = sym some ∙ is in cc

  -- its list is right
  pub told_list : (name : List ℕ) (texts : FormTexts) (c : Result (List Json) FormFault) {seen : Result (List Json) FormFault} {js : List Json} {walk : Trace} {old : List Entry} → seen ≡ Ok js → seen ≡ c → Visited {E = E} (list_visits name texts c) text walk walk old old (Ok tt)
  told_list name texts c {walk = walk} {old} right is = subst (λ z. Visited {E = E} (list_visits name texts z) text walk walk old old (Ok tt)) (sym right ∙ is) visited_none

  -- it is not
  pub told_no_list : (name : List ℕ) (texts : FormTexts) (c : Result (List Json) FormFault) {seen : Result (List Json) FormFault} {fault : FormFault} {before after : Trace} {old new : List Entry} {result : Result Unit E} → seen ≡ Err fault → seen ≡ c → Visited (under (key_part name) (refused (texts fault))) text before after old new result → Visited (list_visits name texts c) text before after old new result
  told_no_list name texts c {before = before} {after} {old} {new} {result} wrong is told = subst (λ z. Visited (list_visits name texts z) text before after old new result) (sym wrong ∙ is) told
