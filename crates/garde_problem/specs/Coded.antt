-- Messages that have a code and parameters beside the sentence.
use Rattle.std.specs.Prelude.{◌≡◌, ◌<◌, ℕ, Bool, ◌==◌, List, [], ◌∷◌, ◌++◌, length, map, codes}
use Rattle.std.specs.Borrow.{Bor}
use Rattle.std.specs.List.{slice_split}
use Rattle.garde_problem.specs.declared.coded.Coded.{Coded}

-- a parameter: its name and its value
abbrev pub Param : Type 0
Param = List ℕ × List ℕ

-- what a message has: a code for programs, a sentence for people, and the parameters of both
pub record Parts : Type 0 where
  pub code : List ℕ
  pub detail : List ℕ
  pub params : List Param

-- the byte of U+001F, which stands at the front of a message with a code, and behind each of its parts
abbrev pub is_mark : ℕ → Bool
is_mark b = b == 31

-- the parameters in a message, each as its name and its value
abbrev pub params_text : List Param → List ℕ
params_text [] = []
params_text (p ∷ ps) = p.0 ++ 31 ∷ (p.1 ++ 31 ∷ params_text ps)

-- a message with a code
abbrev pub coded_text : Parts → List ℕ
coded_text m = 31 ∷ (m.code ++ 31 ∷ (m.detail ++ 31 ∷ params_text m.params))

-- ---- how a message is read

-- texts in pairs, as parameters: the last one is left out where it has no other
abbrev pub pairs : List (List ℕ) → List Param
pairs [] = []
pairs (name ∷ []) = []
pairs (name ∷ value ∷ texts) = (name, value) ∷ pairs texts

-- the parameters in a text
abbrev pub params_in : List ℕ → List Param
params_in text = pairs (slice_split is_mark text)

-- a message without a code
abbrev pub custom : List ℕ → Parts
custom text = record { code = codes "custom"; detail = text; params = [] }

-- the parts of a message, from what stands before and behind its marks
abbrev pub parts_of : List ℕ → List (List ℕ) → Parts
parts_of message [] = custom message
parts_of message ((b ∷ bs) ∷ texts) = custom message
parts_of message ([] ∷ []) = custom message
parts_of message ([] ∷ code ∷ []) = custom message
parts_of message ([] ∷ code ∷ detail ∷ params) = record { code = code; detail = detail; params = pairs params }

-- the parts of a message
abbrev pub message_parts : List ℕ → Parts
message_parts message = parts_of message (slice_split is_mark message)

-- ---- what contracts say

-- parameters as they are passed
abbrev pub passed : List (Bor (List ℕ) × Bor (List ℕ)) → List Param
passed = map (λ p. (p.0.now, p.1.now))

-- what is read of a message
abbrev pub seen : Coded → Parts
seen c = record { code = c.code.now; detail = c.detail.now; params = params_in c.params.text.now }

-- a text is this one, a mark, and the rest
abbrev pub IsCut : List ℕ → List ℕ → List ℕ → Type 0
IsCut text front back = (slice_split is_mark text ≡ front ∷ slice_split is_mark back) × (length back < length text)
