-- Words in place of operators, for what an author says in a condition, in a rule of their own or in a contract.
use Rattle.std.specs.Prelude.{◌≡◌, ℕ, ◌*◌, ◌/◌, ◌%◌, ◌≤◌, Bool, ◌&&◌, ◌||◌, cond}

-- both conditions hold; one of them holds, or both do
abbrev pub both : Bool → Bool → Bool
both a b = a && b

abbrev pub either : Bool → Bool → Bool
either a b = a || b

-- the one where the condition holds, and else the other
abbrev pub choose : {A : Type 0} → Bool → A → A → A
choose condition one other = cond condition one other

-- the product of two numbers, and what their division gives and leaves over
abbrev pub product : ℕ → ℕ → ℕ
product a b = a * b

abbrev pub quotient : ℕ → ℕ → ℕ
quotient a b = a / b

abbrev pub remainder : ℕ → ℕ → ℕ
remainder a b = a % b

-- the fact that two values are the same; that a number is no greater than another
abbrev pub Equals : {A : Type 0} → A → A → Type 0
Equals a b = a ≡ b

abbrev pub IsAtMost : ℕ → ℕ → Type 0
IsAtMost a b = a ≤ b
