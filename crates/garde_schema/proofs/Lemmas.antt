-- Lemmas on what a reading of a tree leaves and answers.
use Rattle.std.proofs.Common.{◌≡◌, ℕ, Bool, ◌≤◌, List, [], ◌∷◌, length, Option, Some, None, Result, Ok, Err, refl, sym, subst, ◌∙◌}
use Rattle.std.proofs.lemmas.Bool.{false≢true}
use Rattle.std.specs.Prelude.{IfOk, IsOkAnd, IsSomeAnd, OnOk, option_map, option_and_then}
use Rattle.std.specs.Result.{IsErr, IsOk}
use Rattle.garde_i18n.specs.Datum.{Datum}
use Rattle.garde_report.specs.Part.{Part}
use Rattle.garde_report.specs.Report.{Entry}
use Rattle.garde_report.specs.Trace.{Trace, IsTrace, with_component, without_last}
use Rattle.json.specs.Json as json
use Rattle.json.specs.Json.{Json}
use Rattle.json.specs.Find.{as_object}
use Rattle.garde_tape.specs.Reading.{member_list}
use Rattle.garde.specs.Fields.{own}
use Rattle.garde.specs.Visits.{Visits, Visited, Known, none, found, ◌and◌, under}
use Rattle.garde.proofs.Author.{visited_none, visited_then, visited_stop, visited_under, visited_full}
use Rattle.garde_report.specs.Fault.{IfFault}
use Rattle.garde_report.specs.declared.error.rule_error.RuleError.{RuleError}
use Rattle.garde_report.specs.declared.error.rule_error.RuleError.TheVariants as errors
use Rattle.garde_rules.specs.{Applies}
use Rattle.garde_schema.specs.Forms.{formed, refused, forget, Sound, both, FormTexts, KeepsSome}
use Rattle.garde_tape.specs.declared.found.Found.{Found}
use Rattle.garde_tape.specs.declared.found.Found.TheVariants.{Missing, Once, Repeated}
use Rattle.garde_schema.specs.declared.fault.FormFault.TheVariants as faults
use Rattle.garde_schema.specs.Members.{once, member_visits, optional_visits, optional_value, members_among, members_in, unknown, unless_named}

-- a fault of form is a fault
pub refused_is_fault : (message : List ℕ) → Known (refused message) → ⊥
unfolding Known found
refused_is_fault message is = cc

-- both of two are sound
pub sound_both : {A B : Type 0} (a b : Visits) (keeps_a : A → Type 0) (keeps_b : B → Type 0) (va : Option A) (vb : Option B) → Sound a keeps_a va → Sound b keeps_b vb → Sound (a and b) (λ out. keeps_a out.0 × keeps_b out.1) (both va vb)
unfolding Known ◌and◌
sound_both a b keeps_a keeps_b (Some x) (Some y) one two = λ known. (one known.0, two known.1)
sound_both a b keeps_a keeps_b (Some x) None one two = λ known. two known.1
sound_both a b keeps_a keeps_b None vb one two = λ known. one known.0

-- the first of two is sound, and the second adds no value
pub sound_first : {A : Type 0} (a b : Visits) (keeps : A → Type 0) (va : Option A) → Sound a keeps va → Sound (a and b) keeps va
unfolding Known ◌and◌
sound_first a b keeps (Some x) one = λ known. one known.0
sound_first a b keeps None one = λ known. one known.0

-- under a component nothing changes
pub sound_below : {A : Type 0} (k : Part) (a : Visits) (keeps : A → Type 0) (o : Option A) → Sound a keeps o → Sound (under k a) keeps o
unfolding Known under
sound_below k a keeps (Some x) sound = sound
sound_below k a keeps None sound = sound

-- a fault of form is told of what was not seen
pub sound_none : {A : Type 0} (message : List ℕ) (each : A → Visits) (keeps : A → Type 0) (is : Option A) {seen : Option A} → seen ≡ None → seen ≡ is → Sound (formed message each is) keeps is
sound_none message each keeps is none same = subst (λ z. Sound (formed message each z) keeps z) (sym none ∙ same) (refused_is_fault message)

-- a member that is missing, or whose name comes twice, has a fault
pub sound_missing : {A : Type 0} (texts : FormTexts) (each : Json → Visits) (keeps : A → Type 0) (value : Json → Option A) (f : Found) → f ≡ Missing → Sound (member_visits texts each f) keeps (option_and_then value (once f))
sound_missing texts each keeps value f is = subst (λ z. Sound (member_visits texts each z) keeps (option_and_then value (once z))) (sym is) (refused_is_fault (texts faults.Missing))

pub sound_repeated : {A : Type 0} (texts : FormTexts) (each : Json → Visits) (keeps : A → Type 0) (value : Json → Option A) (f : Found) → f ≡ Repeated → Sound (member_visits texts each f) keeps (option_and_then value (once f))
sound_repeated texts each keeps value f is = subst (λ z. Sound (member_visits texts each z) keeps (option_and_then value (once z))) (sym is) (refused_is_fault (texts faults.Repeated))

pub sound_object : {A B C : Type 0} (message : List ℕ) (each : B → Visits) (keeps : A → Type 0) (value : B → Option A) (f : B → C) (o : Option B) {seen : Option C} → seen ≡ None → seen ≡ option_map f o → Sound (formed message each o) keeps (option_and_then value o)
sound_object message each keeps value f None none is = refused_is_fault message
sound_object message each keeps value f (Some x) none is = let never : None ≡ Some (f x) = sym none ∙ is in cc

-- the same of a member that may be missing
pub sound_some : {A : Type 0} (visits : Visits) (keeps : A → Type 0) (o : Option A) → Sound visits keeps o → Sound visits (λ out. KeepsSome keeps out) (option_map (λ v. Some v) o)
sound_some visits keeps (Some x) sound = sound
sound_some visits keeps None sound = sound

pub sound_optional_missing : {A : Type 0} (name : Part) (texts : FormTexts) (each : Json → Visits) (keeps : A → Type 0) (value : Json → Option A) (f : Found) → f ≡ Missing → Sound (optional_visits name texts each f) (λ out. KeepsSome keeps out) (optional_value value f)
sound_optional_missing name texts each keeps value f is = subst (λ z. Sound (optional_visits name texts each z) (λ out. KeepsSome keeps out) (optional_value value z)) (sym is) (λ known. tt)

pub sound_optional_once : {A : Type 0} (name : Part) (texts : FormTexts) (each : Json → Visits) (keeps : A → Type 0) (value : Json → Option A) (f : Found) (v : Json) → f ≡ Once v → Sound (each v) keeps (value v) → Sound (optional_visits name texts each f) (λ out. KeepsSome keeps out) (optional_value value f)
sound_optional_once name texts each keeps value f v is sound = subst (λ z. Sound (optional_visits name texts each z) (λ out. KeepsSome keeps out) (optional_value value z)) (sym is) (sound_some (under name (each v)) keeps (value v) (sound_below name (each v) keeps (value v) sound))

pub sound_optional_repeated : {A : Type 0} (name : Part) (texts : FormTexts) (each : Json → Visits) (keeps : A → Type 0) (value : Json → Option A) (f : Found) → f ≡ Repeated → Sound (optional_visits name texts each f) (λ out. KeepsSome keeps out) (optional_value value f)
unfolding Known under
sound_optional_repeated name texts each keeps value f is = subst (λ z. Sound (optional_visits name texts each z) (λ out. KeepsSome keeps out) (optional_value value z)) (sym is) (refused_is_fault (texts faults.Repeated))

-- the members that were looked up are those of the tree
pub members_some : (o : Option json.Members) (ms : List (List ℕ × Json)) {seen : Option (List (List ℕ × Json))} → seen ≡ Some ms → seen ≡ option_map member_list o → ms ≡ members_among o
members_some (Some all) ms some is = cc
members_some None ms some is = let never : Some ms ≡ None = sym some ∙ is in cc

pub members_none : (o : Option json.Members) {seen : Option (List (List ℕ × Json))} → seen ≡ None → seen ≡ option_map member_list o → members_among o ≡ []
members_none None none is = refl
members_none (Some all) none is = let never : None ≡ Some (member_list all) = sym none ∙ is in cc

-- where nothing is wrong there is a value, and what the rules ask holds of it
taken_of : {A : Type 0} (visits : Visits) (keeps : A → Type 0) (v o : Option A) → v ≡ o → Sound visits keeps o → Known visits → IsSomeAnd v keeps
taken_of visits keeps v (Some x) is sound known = subst (λ z. IsSomeAnd z keeps) (sym is) (sound known)
taken_of visits keeps v None is sound known = absurd (sound known)

pub taken_keeps : {A : Type 0} (visits : Visits) (keeps : A → Type 0) (v o : Option A) (x : A) → v ≡ o → Sound visits keeps o → Known visits → v ≡ Some x → keeps x
taken_keeps visits keeps v o x is sound known some = subst (λ z. IsSomeAnd z keeps) some (taken_of visits keeps v o is sound known)

pub taken_none : {A : Type 0} (visits : Visits) (keeps : A → Type 0) (v o : Option A) → v ≡ o → Sound visits keeps o → Known visits → v ≡ None → ⊥
taken_none visits keeps v o is sound known none = subst (λ z. IsSomeAnd z keeps) none (taken_of visits keeps v o is sound known)

pub on_ok : {A E : Type 0} (r : Result A E) {P : Type 0} → P → OnOk r P
on_ok (Ok x) p = p
on_ok (Err e) p = tt

-- a result that is Ok where another one is
pub on_ok_same : {A B E : Type 0} (r : Result A E) (s : Result B E) (P : Type 0) → forget s ≡ forget r → OnOk r P → OnOk s P
on_ok_same (Ok x) s P same p = on_ok s p
on_ok_same (Err e) (Err f) P same p = tt
on_ok_same (Err e) (Ok y) P same p = cc

-- the value of a member that may be missing, and is there once
pub value_once : {A E : Type 0} (value : Json → Option A) (f : Found) (v : Json) (r : Result (Option (Option A)) E) → f ≡ Once v → IfOk r (λ out. out ≡ option_map (λ w. Some w) (value v)) → IfOk r (λ out. out ≡ optional_value value f)
value_once value f v r is told = subst (λ z. IfOk r (λ out. out ≡ optional_value value z)) (sym is) told

pub on_ok_then : {A E : Type 0} (r : Result A E) {P Q : Type 0} → OnOk r P → (P → Q) → OnOk r Q
on_ok_then (Ok x) p f = f p
on_ok_then (Err e) p f = tt

-- the answer of a rule whose fault has a text of its own
pub own_applies : {C E : Type 0} (bytes : C → List ℕ) (message : List ℕ) (text : Datum → List ℕ) (r : Result C E) (e : RuleError) → IfFault e (λ m. IsOkAnd r (λ t. m ≡ bytes t)) → IfOk r (λ s. bytes s ≡ message) → Applies (Some (own message)) text (Err e)
own_applies bytes message text (Ok t) (errors.Fault m) says is = says ∙ is
own_applies bytes message text (Err x) (errors.Fault m) says is = absurd says
own_applies bytes message text r errors.Memory says is = refl

module _ {text : Datum → List ℕ} {E : Type 0} where
  -- what is told is told of the same answer
  pub told_as : (a : Visits) {before after : Trace} {old new : List Entry} {told result : Result Unit E} → result ≡ told → Visited a text before after old new told → Visited a text before after old new result
  told_as a {before} {after} {old} {new} is told = subst (λ r. Visited a text before after old new r) (sym is) told

  -- nothing is left
  pub unknown_end : (names : List ℕ → Bool) (texts : FormTexts) (left : List (List ℕ × Json)) {walk : Trace} {old : List Entry} → left ≡ [] → Visited {E = E} (unknown names texts left) text walk walk old old (Ok tt)
  unfolding unknown
  unknown_end names texts left {walk} {old} step = subst (λ z. Visited {E = E} (unknown names texts z) text walk walk old old (Ok tt)) (sym step) visited_none

  -- what is left begins with this member
  pub unknown_then : (names : List ℕ → Bool) (texts : FormTexts) (left : List (List ℕ × Json)) (m : List ℕ × Json) (ms : List (List ℕ × Json)) {before mid after : Trace} {old between new : List Entry} {first result : Result Unit E} → left ≡ m ∷ ms → Visited (unless_named names texts m.0) text before mid old between first → IsOk first → Visited (unknown names texts ms) text mid after between new result → Visited (unknown names texts left) text before after old new result
  unfolding unknown
  unknown_then names texts left m ms {before} {after = after} {old} {new = new} {result = result} step told is rest = subst (λ z. Visited (unknown names texts z) text before after old new result) (sym step) (visited_then _ _ told is rest)

  pub unknown_stop : (names : List ℕ → Bool) (texts : FormTexts) (left : List (List ℕ × Json)) (m : List ℕ × Json) (ms : List (List ℕ × Json)) {before after : Trace} {old new : List Entry} {first result : Result Unit E} → left ≡ m ∷ ms → Visited (unless_named names texts m.0) text before after old new first → IsErr first → IsErr result → Visited (unknown names texts left) text before after old new result
  unfolding unknown
  unknown_stop names texts left m ms {before} {after} {old} {new} {result = result} step told was is = subst (λ z. Visited (unknown names texts z) text before after old new result) (sym step) (visited_stop _ _ told was is)

  -- the members of an object, and of what is none
  pub unknown_of : (names : List ℕ → Bool) (texts : FormTexts) (j : Json) (ms : List (List ℕ × Json)) {seen : Option (List (List ℕ × Json))} {before after : Trace} {old new : List Entry} {result : Result Unit E} → seen ≡ Some ms → seen ≡ option_map member_list (as_object j) → Visited (unknown names texts ms) text before after old new result → Visited (unknown names texts (members_in j)) text before after old new result
  unknown_of names texts j ms {before = before} {after = after} {old = old} {new = new} {result = result} some is told = subst (λ z. Visited (unknown names texts z) text before after old new result) (members_some (as_object j) ms some is) told

  pub unknown_none : (names : List ℕ → Bool) (texts : FormTexts) (j : Json) {seen : Option (List (List ℕ × Json))} {walk : Trace} {old : List Entry} → seen ≡ None → seen ≡ option_map member_list (as_object j) → Visited {E = E} (unknown names texts (members_in j)) text walk walk old old (Ok tt)
  unknown_none names texts j none is = unknown_end names texts (members_in j) (members_none (as_object j) none is)

  -- a refusal is a refusal, whatever the value
  err_same : {A B : Type 0} (a : Visits) (first : Result A E) (result : Result B E) {before after : Trace} {old new : List Entry} → Visited a text before after old new (forget first) → IsErr first → IsErr result → Visited a text before after old new (forget result)
  err_same a (Ok x) result told was is = absurd (false≢true was)
  err_same a (Err e) (Ok x) told was is = absurd (false≢true is)
  err_same a (Err e) (Err f) told was is = record { ok = tt; err = told.err; why = told.why }

  -- the first of two is refused
  pub read_stop : {A B : Type 0} (a b : Visits) (first : Result A E) (result : Result B E) {before after : Trace} {old new : List Entry} → Visited a text before after old new (forget first) → IsErr first → IsErr result → Visited (a and b) text before after old new (forget result)
  read_stop a b (Ok x) result told was is = absurd (false≢true was)
  read_stop a b (Err e) (Ok x) told was is = absurd (false≢true is)
  read_stop a b (Err e) (Err f) told was is = visited_stop a b told refl refl

  -- the second of two is refused
  pub read_then_stop : {A B C : Type 0} (a b : Visits) (first : Result A E) (second : Result B E) (result : Result C E) {before mid after : Trace} {old between new : List Entry} → Visited a text before mid old between (forget first) → IsOk first → Visited b text mid after between new (forget second) → IsErr second → IsErr result → Visited (a and b) text before after old new (forget result)
  read_then_stop a b (Err e) second result one was two is so = absurd (false≢true was)
  read_then_stop a b (Ok x) second result one was two is so = visited_then a b one refl (err_same b second result two is so)

  -- both are done
  pub read_both : {A B : Type 0} (a b : Visits) (first : Result A E) (second : Result B E) {before mid after : Trace} {old between new : List Entry} → Visited a text before mid old between (forget first) → IsOk first → Visited b text mid after between new (forget second) → IsOk second → Visited {E = E} (a and b) text before after old new (Ok tt)
  read_both a b (Err e) second one was two is = absurd (false≢true was)
  read_both a b (Ok x) (Err e) one was two is = absurd (false≢true is)
  read_both a b (Ok x) (Ok y) one was two is = visited_then a b one refl two

  -- under a component, which is this one
  pub told_under : (k : Part) {p : Part} (a : Visits) {before inner mid after : Trace} {old new : List Entry} {result : Result Unit E} → p ≡ k → IsTrace before → inner ≡ with_component before p → Visited a text inner mid old new result → after ≡ without_last mid → Visited (under k a) text before after old new result
  told_under k {p} a {before} {inner} {mid} {after} {old} {new} {result} is sound push told pop = subst (λ z. Visited (under z a) text before after old new result) is (visited_under p a sound push told pop)

  -- no component more goes onto the trail
  pub told_under_full : {A : Type 0} (k : Part) (a : Visits) (result : Result A E) {before after : Trace} {old new : List Entry} → new ≡ old → after ≡ before → 8 ≤ length before.components → IsErr result → Visited (under k a) text before after old new (forget result)
  told_under_full k a (Ok x) same still full is = absurd (false≢true is)
  told_under_full k a (Err e) same still full is = visited_full k a same still full refl

  -- what is asked of a member by what was found of it
  pub told_found : (texts : FormTexts) (each : Json → Visits) (f g : Found) {before after : Trace} {old new : List Entry} {result : Result Unit E} → f ≡ g → Visited (member_visits texts each f) text before after old new result → Visited (member_visits texts each g) text before after old new result
  told_found texts each f g {before} {after} {old} {new} {result} is told = subst (λ z. Visited (member_visits texts each z) text before after old new result) is told

  -- what is asked of a member that may be missing, by what was found of it
  pub optional_missing : (name : Part) (texts : FormTexts) (each : Json → Visits) (f : Found) {walk : Trace} {old : List Entry} → f ≡ Missing → Visited {E = E} (optional_visits name texts each f) text walk walk old old (Ok tt)
  optional_missing name texts each f {walk} {old} is = subst (λ z. Visited {E = E} (optional_visits name texts each z) text walk walk old old (Ok tt)) (sym is) visited_none

  pub optional_once : (name : Part) {p : Part} (texts : FormTexts) (each : Json → Visits) (f : Found) (v : Json) {before after : Trace} {old new : List Entry} {told result : Result Unit E} → p ≡ name → f ≡ Once v → Visited (under p (each v)) text before after old new told → result ≡ told → Visited (optional_visits name texts each f) text before after old new result
  optional_once name texts each f v {before} {after} {old} {new} {result = result} at is told same =
      subst (λ z. Visited (optional_visits name texts each z) text before after old new result) (sym is)
      (subst (λ k. Visited (under k (each v)) text before after old new result) at (told_as (under _ (each v)) same told))

  pub optional_repeated : (name : Part) (texts : FormTexts) (each : Json → Visits) (f : Found) {before after : Trace} {old new : List Entry} {told result : Result Unit E} → f ≡ Repeated → Visited (under name (refused (texts faults.Repeated))) text before after old new told → result ≡ told → Visited (optional_visits name texts each f) text before after old new result
  optional_repeated name texts each f {before} {after} {old} {new} {result = result} is told same = subst (λ z. Visited (optional_visits name texts each z) text before after old new result) (sym is) (told_as (under name (refused (texts faults.Repeated))) same told)

  pub optional_found : (name : Part) (texts : FormTexts) (each : Json → Visits) (f g : Found) {before after : Trace} {old new : List Entry} {result : Result Unit E} → f ≡ g → Visited (optional_visits name texts each f) text before after old new result → Visited (optional_visits name texts each g) text before after old new result
  optional_found name texts each f g {before} {after} {old} {new} {result} is told = subst (λ z. Visited (optional_visits name texts each z) text before after old new result) is told

  -- a value is read, and then more is told
  pub read_and : {A : Type 0} (a b : Visits) (first : Result A E) {before mid after : Trace} {old between new : List Entry} {told result : Result Unit E} → Visited a text before mid old between (forget first) → IsOk first → Visited b text mid after between new told → result ≡ told → Visited (a and b) text before after old new result
  read_and a b (Err e) one was two same = absurd (false≢true was)
  read_and a b (Ok x) {before} {mid} {after} {old} {between} {new} {result = result} one was two same = visited_then a b one refl (told_as b same two)
