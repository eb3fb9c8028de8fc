-- How components are compared and hashed.
use Rattle.std.specs.Prelude.{◌≡◌, ℕ, Bool, true, ◌==◌, ◌++◌, pos}
use Rattle.std.specs.declared.cmp.Ordering.{Ordering}
use Rattle.std.specs.Ordering.{nat_cmp, on, then_cmp, eq_of_both, eq_by_cmp}
use Rattle.std.specs.Cmp.{IsEquivalence, IsTotalOrder, and_equiv, on_equiv, nat_eq_equiv, then_total, on_total, nat_cmp_total, both_tied, unsigned_ties, unsigned_Decides}
use Rattle.std.specs.Cmp.Lexicographic.{pointwise, slice_cmp, nat_list_eq_equiv, nat_list_cmp_total, texts_ties, bytes_decides}
use Rattle.std.specs.Hash.{HashWrites, isize, str, and-Alike, on_Alike, same_Alike}
use Rattle.garde_report.specs.declared.error.component.Kind.{Kind}
use Rattle.garde_report.specs.declared.error.component.Kind.TheVariants.{None, Key, Index}
use Rattle.garde_report.specs.Part.{Part}

-- the order of the kinds
abbrev pub kind_rank : Kind → ℕ
kind_rank None = 0
kind_rank Key = 1
kind_rank Index = 2

-- components are compared by kind, and then by the bytes of their texts
abbrev pub part_cmp : Part → Part → Ordering
part_cmp = then_cmp (on (λ (p : Part). kind_rank p.kind) nat_cmp) (on (λ (p : Part). p.text) (slice_cmp nat_cmp))

-- components are equal where their kinds and the bytes of their texts are
abbrev pub part_eq : Part → Part → Bool
part_eq = eq_of_both (on (λ (p : Part). kind_rank p.kind) ◌==◌) (on (λ (p : Part). p.text) (pointwise ◌==◌))

-- what a component feeds a hasher: its kind, and then its text
abbrev pub part_writes : Part → HashWrites
part_writes p = isize (pos (kind_rank p.kind)) ++ str p.text

-- `==` of components is reflexive, symmetric and transitive
pub part_eq-equiv : IsEquivalence part_eq
part_eq-equiv = and_equiv (on_equiv (λ (p : Part). kind_rank p.kind) nat_eq_equiv) (on_equiv (λ (p : Part). p.text) nat_list_eq_equiv)

-- their order is total
pub part_cmp-total : IsTotalOrder part_cmp
part_cmp-total = then_total (on_total (λ (p : Part). kind_rank p.kind) nat_cmp_total) (on_total (λ (p : Part). p.text) nat_list_cmp_total)

-- it ties exactly the components that are equal
pub part_cmp-ties : (p q : Part) → part_eq p q ≡ eq_by_cmp part_cmp p q
part_cmp-ties p q =
    both_tied _ _ _ _ (unsigned_ties (kind_rank p.kind) (kind_rank q.kind)) (texts_ties p.text q.text)

-- components that are equal are fed alike
pub part_writes-alike : (p q : Part) → part_eq p q ≡ true → part_writes p ≡ part_writes q
part_writes-alike = (and-Alike (on_Alike (λ (p : Part). kind_rank p.kind) (same_Alike (λ n. isize (pos n)) unsigned_Decides)) (on_Alike (λ (p : Part). p.text) (same_Alike str bytes_decides))).fed
