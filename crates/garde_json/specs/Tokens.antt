-- The tokens of written forms.
use Rattle.std.specs.Prelude.{◌≡◌, List, ◌++◌, map}
use Rattle.json.specs.Token.{Token}
use Rattle.json.specs.Tree.{json_tokens, items_tokens}
use Rattle.json.specs.Written.{Written}
use Rattle.serde_json.specs.Data.{Data}
use Rattle.serde_json.specs.View.{items_of}
use Rattle.serde_json.specs.Written.{outline, items_outline}

-- the tokens of a tree
abbrev pub tree_tokens : Data → List Token
tree_tokens d = json_tokens (outline d)

-- the tokens of a written form
abbrev pub tokens_of : {X : Type 0} → (X → Data) → X → List Token
tokens_of tree x = tree_tokens (tree x)

-- the tokens of the trees of a list, and the bracket that closes their array
abbrev pub rest_tokens : {X : Type 0} → (X → Data) → List X → List Token
rest_tokens tree xs = items_tokens (items_outline (items_of (map tree xs)))

-- the tokens of a tree were written behind those that stood there
pub record IsWritten (d : Data) (old new : Written) : Type 0 where
  pub before : new.before ≡ old.before
  pub tokens : new.tokens ≡ old.tokens ++ tree_tokens d
