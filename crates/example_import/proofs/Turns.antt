-- What an import has done so far.
use Rattle.std.proofs.Common.{◌≡◌, ◌∙◌, sym, ap, subst, refl, ℕ, ◌+◌, Bool, true, false, not, ◌||◌, List, [], ◌∷◌, ◌++◌, length, length-append, map, Option, Some, None, ◌-◌, ◌^◌, ◌⊎◌, inl, inr, arith}
use Rattle.std.specs.List.{list_any}
use Rattle.std.proofs.lemmas.List.{map-append}
use Rattle.std.proofs.lemmas.List.Folds.{list_any-append}
use Rattle.std.proofs.lemmas.Bool.{true≢false}
use Rattle.std.proofs.Math.Dec.{eqb-suc-zero}
use Rattle.garde.specs.Handlers.{Datum}
use Rattle.garde.specs.Words.{Entry}
use Rattle.example_import.specs.Line.{Line}
use Rattle.example_import.specs.Import.{Turn, Takes, Imports}
use Rattle.example_import.specs.Run.{Chain, Goes, Halts, Ran, KeepsFront, StopsAt, has_fault, counted, committed, new_run, is_full, is_all}
use Rattle.example_import.specs.declared.item.Item.{Item}
use Rattle.example_import.specs.declared.item.Item.TheVariants as item
use Rattle.example_import.specs.declared.run.Run.{Run}
use Rattle.example_import.specs.declared.run.Batch.{Batch}
use Rattle.example_import.specs.declared.run.Batch.TheVariants.{Items, All}
use Rattle.example_import.specs.declared.run.Cause.{Cause}
use Rattle.example_import.specs.declared.run.Cause.TheVariants.{Store, TooLong}
use Rattle.example_import.specs.declared.run.Progress.{Progress}

chain_more : {S A : Type 0} (R : S → A → S → Type 0) (s t u : S) (xs : List A) (a : A) → Chain R s xs t → R t a u → Chain R s (xs ++ a ∷ []) u
chain_more R s t u [] a same step = (u, subst (λ x. R x a u) same step, refl)
chain_more R s t u (x ∷ xs) a (mid, first, more) step = (mid, first, chain_more R mid t u xs a more step)

-- one item more
one_more : (text : Datum → List ℕ) (index : ℕ) (old mid new : List Line) (turns : List Turn) (turn : Turn) → Imports text index old turns mid → Takes text (index + length turns) mid turn.0 turn.1 new → Imports text index old (turns ++ turn ∷ []) new
one_more text index old mid new [] turn same takes =
    (new, subst (λ lines. Takes text index lines turn.0 turn.1 new) same (subst (λ at. Takes text at mid turn.0 turn.1 new) (omega arith) takes), refl)
one_more text index old mid new (t ∷ turns) turn (next, first, more) takes =
    (next, first, one_more text (index + 1) next mid new turns turn more (subst (λ at. Takes text at mid turn.0 turn.1 new) (omega arith) takes))

-- how many lines an item adds
abbrev added : Bool → ℕ
added true = 0
added false = 1

adds : (text : Datum → List ℕ) (index : ℕ) (old new : List Line) (it : Item) (report : List Entry) (faulty : Bool) → faulty ≡ has_fault (it, report) → Takes text index old it report new → length new ≡ length old + added faulty
adds text index old new (item.Row row) [] true is t = absurd (true≢false is)
adds text index old new (item.Row row) [] false is t = ap length t.3.1 ∙ length-append old _
adds text index old new (item.Row row) (one ∷ more) true is t = omega (arith, ap length t.3)
adds text index old new (item.Row row) (one ∷ more) false is t = absurd (true≢false (sym (is ∙ ap not (eqb-suc-zero (length more)))))
adds text index old new (item.Broken flaw) [] faulty is t = absurd (let e = t.0 in cc)
adds text index old new (item.Broken flaw) (one ∷ more) true is t = omega (arith, ap length t.1)
adds text index old new (item.Broken flaw) (one ∷ more) false is t = absurd (true≢false (sym (is ∙ ap not (eqb-suc-zero (length more)))))

counts : (run : Run) (faulty : Bool) → (counted faulty run).stored ≡ run.stored + added faulty
counts run true = omega arith
counts run false = refl

seen : (run : Run) (faulty : Bool) (turns : List Turn) (turn : Turn) → run.faulty ≡ list_any has_fault turns → faulty ≡ has_fault turn → (counted faulty run).faulty ≡ list_any has_fault (turns ++ turn ∷ [])
seen run true turns turn before is = sym (list_any-append has_fault turns (turn ∷ []) ∙ ap (λ b. list_any has_fault turns || (b || false)) (sym is) ∙ or_true (list_any has_fault turns))
  where
    or_true : (b : Bool) → (b || true) ≡ true
    or_true true = refl
    or_true false = refl
seen run false turns turn before is = before ∙ sym (list_any-append has_fault turns (turn ∷ []) ∙ ap (λ b. list_any has_fault turns || (b || false)) (sym is) ∙ or_false (list_any has_fault turns))
  where
    or_false : (b : Bool) → (b || false) ≡ b
    or_false true = refl
    or_false false = refl

kept_of : (run : Run) (faulty : Bool) → (counted faulty run).kept ≡ run.kept
kept_of run true = refl
kept_of run false = refl

pub batches : (batch : Batch) (items : ℕ) → is_full batch items ≡ true → is_all batch ≡ false
batches (Items most) items full = refl
batches All items full = absurd (true≢false (sym full))

module _ {L O : Type 0} (gives : L → Option Item → L → Type 0) (tells : O → List Entry → O → Type 0) (text : Datum → List ℕ) (batch : Batch) (before : List Line) (first : L) (start : O) where
  pub begins : (kept : List Line) → kept ≡ before → Ran gives tells text batch before first first start start before kept 0 new_run
  begins kept same = record {
    turns = [];
    read = record { given = refl; told = refl };
    made = refl;
    items = refl;
    stored = omega arith;
    faulty = refl;
    keeps = record { turns = []; end = first; last = start; read = record { given = refl; told = refl }; made = same; items = refl; stored = ap length same ∙ omega arith; whole = λ all. refl };
  }

  pub goes : (list end : L) (out last : O) (lines kept new later : List Line) (index : ℕ) (run : Run) (faulty : Bool) → Ran gives tells text batch before first list start out lines kept index run
      → Goes gives tells text index list end out last lines new faulty → later ≡ kept → Ran gives tells text batch before first end start last new later (index + 1) (counted faulty run)
  goes list end out last lines kept new later index run faulty ran it same =
      let turn : Turn = (it.item, it.report) in record {
        turns = ran.turns ++ turn ∷ [];
        read = record {
          given = subst (λ items. Chain (λ s i. gives s (Some i)) first items end) (sym (map-append (λ (t : Turn). t.0) ran.turns (turn ∷ []))) (chain_more (λ s i. gives s (Some i)) first list end (map (λ (t : Turn). t.0) ran.turns) it.item ran.read.given it.given);
          told = subst (λ reports. Chain tells start reports last) (sym (map-append (λ (t : Turn). t.1) ran.turns (turn ∷ []))) (chain_more tells start out last (map (λ (t : Turn). t.1) ran.turns) it.report ran.read.told it.told);
        };
        made = one_more text 0 before lines new ran.turns turn ran.made (subst (λ at. Takes text at lines it.item it.report new) (ran.items ∙ omega arith) it.takes);
        items = ap (λ n. n + 1) ran.items ∙ sym (length-append ran.turns (turn ∷ []));
        stored = adds text index lines new it.item it.report faulty it.is_faulty it.takes ∙ ap (λ n. n + added faulty) ran.stored ∙ (omega (arith, counts run faulty));
        faulty = seen run faulty ran.turns turn ran.faulty it.is_faulty;
        keeps = subst (λ p. KeepsFront gives tells text batch before first start later p) (sym (kept_of run faulty)) (subst (λ k. KeepsFront gives tells text batch before first start k run.kept) (sym same) ran.keeps);
      }

  pub keeps : (list : L) (out : O) (lines kept : List Line) (items : ℕ) (run : Run) → is_all batch ≡ false → Ran gives tells text batch before first list start out lines kept items run
      → KeepsFront gives tells text batch before first start lines (committed items run).kept
  keeps list out lines kept items run batches ran =
      record { turns = ran.turns; end = list; last = out; read = ran.read; made = ran.made; items = ran.items; stored = ran.stored; whole = λ all. absurd (true≢false (sym all ∙ batches)) }

  pub moved : {list : L} {out : O} {lines kept lines' kept' : List Line} {items : ℕ} {run run' : Run} → Ran gives tells text batch before first list start out lines kept items run → lines' ≡ lines → kept' ≡ kept → run' ≡ run
      → Ran gives tells text batch before first list start out lines' kept' items run'
  moved {list} {out} {lines} {kept} {lines'} {kept'} {items} {run} {run'} ran l k r =
      subst (λ x. Ran gives tells text batch before first list start out x kept' items run') (sym l)
      (subst (λ x. Ran gives tells text batch before first list start out lines x items run') (sym k) (subst (λ x. Ran gives tells text batch before first list start out lines kept items x) (sym r) ran))

  pub front : {kept kept' : List Line} {p p' : Progress} → KeepsFront gives tells text batch before first start kept p → kept' ≡ kept → p' ≡ p → KeepsFront gives tells text batch before first start kept' p'
  front {kept} {kept'} {p} {p'} it k r = subst (λ x. KeepsFront gives tells text batch before first start x p') (sym k) (subst (λ x. KeepsFront gives tells text batch before first start kept x) (sym r) it)

  pub settles : {list : L} {out : O} {lines kept : List Line} {items : ℕ} {run : Run} → is_all batch ≡ false → Ran gives tells text batch before first list start out lines kept items run
      → Ran gives tells text batch before first list start out lines lines items (committed items run)
  settles {list} {out} {lines} {kept} {items} {run} some ran =
      record { turns = ran.turns; read = ran.read; made = ran.made; items = ran.items; stored = ran.stored; faulty = ran.faulty; keeps = keeps list out lines kept items run some ran }

  pub stops : {list : L} {out : O} {lines kept new : List Line} {items : ℕ} {run later : Run} → is_all batch ≡ false → Ran gives tells text batch before first list start out lines kept items run
      → ((new ≡ kept) × (later ≡ run)) ⊎ ((new ≡ lines) × (later ≡ committed items run)) → KeepsFront gives tells text batch before first start new later.kept
  stops some ran (inl same) = front ran.keeps same.0 (ap (λ (r : Run). r.kept) same.1)
  stops some ran (inr all) = front (settles some ran).keeps all.0 (ap (λ (r : Run). r.kept) all.1)

  -- where it stops
  pub halts : {A B C : Type 0} (cause : Cause A B C) (list end : L) (out last : O) (lines kept : List Line) (items : ℕ) (run : Run)
      → ((count : ℕ) → StopsAt gives tells cause count list end out last) → Ran gives tells text batch before first list start out lines kept items run
      → Halts gives tells text cause before first end start last
  halts cause list end out last lines kept items run stops ran =
      record { turns = ran.turns; left = list; said = out; lines = lines; read = ran.read; made = ran.made; stops = stops (length ran.turns) }

  -- where a table fails between two items, or at the end of the list
  pub halts_between : {A B C : Type 0} (error : B) (list : L) (out : O) (lines kept : List Line) (items : ℕ) (run : Run)
      → Ran gives tells text batch before first list start out lines kept items run → Halts gives tells {A = A} {B = B} {C = C} text (Store error) before first list start out
  halts_between error list out lines kept items run ran = halts (Store error) list list out out lines kept items run (λ count. (inl refl, refl)) ran

  pub halts_at_end : {A B C : Type 0} (error : B) (list end : L) (out : O) (lines kept : List Line) (items : ℕ) (run : Run) → gives list None end
      → Ran gives tells text batch before first list start out lines kept items run → Halts gives tells {A = A} {B = B} {C = C} text (Store error) before first end start out
  halts_at_end error list end out lines kept items run over ran =
      halts (Store error) list end out out lines kept items run (λ count. (inr (None, over), refl)) ran

  -- where the list has more items than are counted
  pub halts_long : {A B C : Type 0} (list : L) (out : O) (lines kept : List Line) (items : ℕ) (run : Run) → items ≡ 2 ^ 64 - 1
      → Ran gives tells text batch before first list start out lines kept items run → Halts gives tells {A = A} {B = B} {C = C} text TooLong before first list start out
  halts_long list out lines kept items run long ran = record {
    turns = ran.turns;
    left = list;
    said = out;
    lines = lines;
    read = ran.read;
    made = ran.made;
    stops = (refl, refl, sym ran.items ∙ long);
  }

  -- where nothing was read
  pub halts_at_first : {A B C : Type 0} (error : B) → Halts gives tells {A = A} {B = B} {C = C} text (Store error) before first first start start
  halts_at_first error = record {
    turns = [];
    left = first;
    said = start;
    lines = before;
    read = record { given = refl; told = refl };
    made = refl;
    stops = (inl refl, refl);
  }
