-- What is left of the tokens nests no deeper than all of them.
use Rattle.std.proofs.Common.{◌≡◌, ℕ, ◌≤◌, List, [], ◌∷◌, ap, arith}
use Rattle.json.specs.Token.{Token}
use Rattle.garde_tape.specs.Nesting.{depth_behind, most_nested}

-- at least so many are open at once as before the tokens
pub open_before : (n : ℕ) (ts : List Token) → n ≤ most_nested n ts
unfolding most_nested
open_before n [] = omega arith
open_before n (t ∷ ts) = omega arith

-- the same bound holds behind the first token
pub behind_first : (n d m : ℕ) (t : Token) (ts old : List Token) → old ≡ t ∷ ts → d ≡ depth_behind t n → most_nested n old ≤ m → most_nested d ts ≤ m
unfolding most_nested
behind_first n d m t ts old is deep bound = omega (arith, bound, ap (most_nested n) is, ap (λ k. most_nested k ts) deep)
