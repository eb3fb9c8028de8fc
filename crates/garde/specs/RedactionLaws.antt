-- What visits find that are put together of others, and what rules find, are faults that they may find.
use Rattle.std.specs.Prelude.{ℕ, Bool, true, false, Option, Some, None, List, [], ◌∷◌, ◌++◌, refl}
use Rattle.std.specs.List.{Contains, enumerate_from}
use Rattle.std.proofs.Common.{subst, sym, arith}
use Rattle.std.proofs.lemmas.List.Elements.{Contains-append_left, Contains-append_right}
use Rattle.garde_report.specs.Part.{Part, index_part, unnamed_part}
use Rattle.garde_rules.specs.{Fault}
use Rattle.garde.specs.Fields.{asks_text, unique_text, is}
use Rattle.garde.specs.Firsts.{firsts}
use Rattle.garde.specs.Redaction.{IsAmong, AreAmong, FindsAmong, own_fault}
use Rattle.garde.specs.Tree.{Tree, nothing, fault, under, ◌then◌}
use Rattle.garde.specs.Trees.{TreesEach}
use Rattle.garde.specs.Visits as visits
use Rattle.garde.specs.Visits.{Visits, ◌and◌}

-- a user-defined rule with a message
pub asks_among : (message : List ℕ) (holds : Bool) → IsAmong (own_fault message) (asks_text message holds)
asks_among message true = tt
asks_among message false = (0, omega arith, refl)

among_more : (few many : List Fault) → ((f : Fault) → Contains few f → Contains many f) → (t : Tree) → AreAmong few t → AreAmong many t
among_more few many more nothing among = tt
among_more few many more (fault f t) among = (more f among.0, among_more few many more t among.1)
among_more few many more (under k s t) among = (among_more few many more s among.0, among_more few many more t among.1)

among_then : (faults : List Fault) (a b : Tree) → AreAmong faults a → AreAmong faults b → AreAmong faults (a then b)
among_then faults nothing b one other = other
among_then faults (fault f a) b one other = (one.0, among_then faults a b one.1 other)
among_then faults (under k s a) b one other = (one.0, among_then faults a b one.1 other)

-- a rule
pub finds_rule : (faults : List Fault) (found : Option Fault) → IsAmong faults found → FindsAmong faults (visits.found found)
unfolding visits.found
finds_rule faults None among = record { among = λ t is. subst (AreAmong faults) (sym is) tt }
finds_rule faults (Some f) among = record { among = λ t is. subst (AreAmong faults) (sym is) (among, tt) }

pub finds_none : FindsAmong [] visits.none
unfolding visits.none visits.only
finds_none = record { among = λ t is. subst (AreAmong []) (sym is) tt }

-- one and then the other find what the one finds and what the other finds
pub finds_and : {few more : List Fault} {a b : Visits} → FindsAmong few a → FindsAmong more b → FindsAmong (few ++ more) (a and b)
unfolding ◌and◌
finds_and {few} {more} one other = record {
  among = λ t v.
      let (s, u, vs, vu, is) = v in
      let first = among_more few (few ++ more) (Contains-append_left few more) s (one.among s vs) in
      let second = among_more more (few ++ more) (Contains-append_right few more) u (other.among u vu) in
      subst (AreAmong (few ++ more)) (sym is) (among_then (few ++ more) s u first second);
}

-- a component, a condition and a rule that allocates change nothing
pub finds_under : {faults : List Fault} {a : Visits} (k : Part) → FindsAmong faults a → FindsAmong faults (visits.under k a)
unfolding visits.under
finds_under {faults} k finds = record { among = λ t v. let (s, vs, is) = v in subst (AreAmong faults) (sym is) (finds.among s vs, tt) }

pub finds_when : {faults : List Fault} {a : Visits} (condition : Bool) → FindsAmong faults a → FindsAmong faults (visits.when condition a)
unfolding visits.when visits.none visits.only
finds_when true finds = finds
finds_when {faults} false finds = record { among = λ t is. subst (AreAmong faults) (sym is) tt }

pub finds_may_allocate : {faults : List Fault} {a : Visits} → FindsAmong faults a → FindsAmong faults (visits.may_allocate a)
unfolding visits.may_allocate
finds_may_allocate finds = record { among = finds.among }

-- what an option, a list or a map holds finds what each value in it finds
pub finds_optional : {A : Type 0} (faults : List Fault) (each : A → Visits) (v : Option A) → ((x : A) → FindsAmong faults (each x)) → FindsAmong faults (visits.optional each v)
unfolding visits.optional
finds_optional faults each None finds = record { among = λ t is. subst (AreAmong faults) (sym is) tt }
finds_optional faults each (Some x) finds = record { among = (finds x).among }

-- the same, under the component without a name
pub finds_each_of_option : {A : Type 0} (faults : List Fault) (each : A → Visits) (v : Option A) → ((x : A) → FindsAmong faults (each x)) → FindsAmong faults (visits.each_of_option each v)
finds_each_of_option faults each v finds = finds_optional faults (λ x. visits.under unnamed_part (each x)) v (λ x. finds_under unnamed_part (finds x))

each_among : {K A : Type 0} (faults : List Fault) (part : K → Part) (each : A → Visits) (es : List (K × A)) → ((x : A) → FindsAmong faults (each x)) → (t : Tree) → TreesEach part (λ x. (each x).trees) es t → AreAmong faults t
each_among faults part each [] finds t is = subst (AreAmong faults) (sym is) tt
each_among faults part each (e ∷ es) finds t (a, b, (s, vs, at), vb, is) =
    let item : AreAmong faults a = subst (AreAmong faults) (sym at) ((finds e.1).among s vs, tt) in
    subst (AreAmong faults) (sym is) (among_then faults a b item (each_among faults part each es finds b vb))

pub finds_items : {A : Type 0} (faults : List Fault) (each : A → Visits) (xs : List A) → ((x : A) → FindsAmong faults (each x)) → FindsAmong faults (visits.items each xs)
unfolding visits.items
finds_items faults each xs finds = record { among = each_among faults index_part each (enumerate_from 0 xs) finds }

pub finds_entries : {K A : Type 0} (faults : List Fault) (part : K → Part) (each : A → Visits) (es : List (K × A)) → ((x : A) → FindsAmong faults (each x)) → FindsAmong faults (visits.entries part each es)
unfolding visits.entries
finds_entries faults part each es finds = record { among = each_among faults part each es finds }

pub finds_in_any_order : {A : Type 0} (faults : List Fault) (each : A → Visits) (xs : List A) → ((x : A) → FindsAmong faults (each x)) → FindsAmong faults (visits.items_in_any_order each xs)
unfolding visits.items_in_any_order
finds_in_any_order faults each xs finds = record { among = λ t v. let (ys, moved, vs) = v in each_among faults index_part each (enumerate_from 0 ys) finds t vs }

pub finds_entries_in_any_order : {K A : Type 0} (faults : List Fault) (part : K → Part) (each : A → Visits) (es : List (K × A)) → ((x : A) → FindsAmong faults (each x)) → FindsAmong faults (visits.entries_in_any_order part each es)
unfolding visits.entries_in_any_order
finds_entries_in_any_order faults part each es finds = record { among = λ t v. let (fs, moved, vs) = v in each_among faults part each fs finds t vs }

-- each item that is the same as one before it says the message
pub finds_unique : {A : Type 0} (message : List ℕ) (same : A → A → Bool) (xs : List A) → FindsAmong (own_fault message) (unique_text message same xs)
finds_unique message same xs =
    finds_entries (own_fault message) index_part (λ first. is (asks_text message first)) (firsts same xs)
    (λ first. finds_rule (own_fault message) (asks_text message first) (asks_among message first))
