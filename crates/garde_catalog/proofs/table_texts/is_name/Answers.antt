use Rattle.std.proofs.Common.{◌≡◌, ◌<◌, ◌+◌, ◌∙◌, ◌||◌, ℕ, List, [], ◌∷◌, Bool, true, false, bytes_eq, length, map, take, get_or, refl, sym, ap}
use Rattle.std.specs.List.{list_any}
use Rattle.std.proofs.lemmas.List.Folds.{list_any_at, list_any_more}
use Rattle.garde_catalog.specs.Lines.{is_name}
use Rattle.garde_catalog.specs.Messages.{Stated, message_of}
use Rattle.garde_catalog.proofs.table_texts.is_name.Goals as goal

list_any-map : {X Y : Type 0} (p : Y → Bool) (f : X → Y) (xs : List X) → list_any p (map f xs) ≡ list_any (λ x. p (f x)) xs
list_any-map p f [] = refl
list_any-map p f (x ∷ xs) = ap (λ b. p (f x) || b) (list_any-map p f xs)

module _ (name : List ℕ) (messages : List Stated) (i : ℕ) (d : Stated) (low : i < length messages) where
  has_name : bytes_eq name (get_or messages i d).0.now ≡ true → is_name (map message_of messages) name ≡ true
  has_name same = list_any-map (λ m. bytes_eq name m.0) message_of messages ∙ list_any_at (λ m. bytes_eq name (message_of m).0) messages i d low same

  still_none : is_name (map message_of (take i messages)) name ≡ false → bytes_eq name (get_or messages i d).0.now ≡ false
      → is_name (map message_of (take (i + 1) messages)) name ≡ false
  still_none none not_this =
      let p = λ (m : Stated). bytes_eq name (message_of m).0 in
      list_any-map (λ m. bytes_eq name m.0) message_of (take (i + 1) messages) ∙ list_any_more p messages i d low
      ∙ ap (λ b. b || p (get_or messages i d)) (sym (list_any-map (λ m. bytes_eq name m.0) message_of (take i messages)) ∙ none) ∙ not_this

pub returns-then-eq : goal.returns-then-eq
returns-then-eq c =
    sym (has_name c.args.name.now c.args.messages.now c.loop-code.code-index _ c.loop-code-test.true (sym c.eq.ensures ∙ c.if-eq.true))

pub loop-code-preserved : goal.loop-code-preserved
loop-code-preserved c =
    still_none c.args.name.now c.args.messages.now c.loop-code.code-index _ c.loop-code-test.true c.loop-code.invariant (sym c.eq.ensures ∙ c.if-eq.false)
