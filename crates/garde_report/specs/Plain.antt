-- Paths that their texts tell apart.
use Rattle.std.specs.Prelude.{◌≡◌, ℕ, ◌<◌, List, length}
use Rattle.std.specs.List.{All, Contains}
use Rattle.garde_report.specs.declared.error.component.Kind.{Kind}
use Rattle.garde_report.specs.declared.error.component.Kind.TheVariants.{None, Key, Index}
use Rattle.garde_report.specs.Part.{Part}
use Rattle.garde_report.specs.Path.{path_text}

-- a component with a name: a key that is not empty and holds neither `.` nor `[`, or an index that holds no `]`
abbrev pub IsPlain : Kind → List ℕ → Type 0
IsPlain None text = ⊥
IsPlain Key text = (0 < length text) × ¬ (Contains text 46) × ¬ (Contains text 91)
IsPlain Index text = ¬ (Contains text 93)

-- each component of the path is plain
abbrev pub IsPlainPath : List Part → Type 0
IsPlainPath = All (λ p. IsPlain p.kind p.text)

-- paths of such components are equal where their texts are
abbrev pub PlainPathsDiffer : Type 0
PlainPathsDiffer = (p q : List Part) → IsPlainPath p → IsPlainPath q → path_text p ≡ path_text q → p ≡ q
