-- `of` takes the pointer out of a `Loose`. A walk of its MIR.
use Rattle.std.proofs.Common.{List, [], ◌∷◌, ◌++◌, refl, sym, subst}
use mathlib.Core.Bool.{true}
use mir.Val.{Val, vbool, vptr, vstruct, vcons, vnil}
use base.Logic.{SProp, ent, id⊢}
use base.Fml.{ftrue}
use prog.Wp.{WpFn}
use types.Kit.{‵, raw, ◌⊛◌, ◌$◌, ◌∵◌, !, qed, by, move, keep, fsplit, fjoin, fpack, suffices, feq_i, split}
use types.Part.{agg, sub, whole}
use types.Run.{stop, fld, of_opd, true_lit, and_then, no_more, returns, enter}
use types.ByLocal.{alloc_all, pass_all, free_all, look_at, get, get_in, sets}
use contract.Running.{tables}
use denote.Exit.{yes}
use denote.RattleType.{Valss, owns}
use denote.Signature.{types_at, plain}
use denote.Builtin.{RawPtr}
use denote.Plain.{Boolean}
use denote.RawPtr.{block_ptr}
use denote.Steps.{nothing}
use denote.Struct.Struct.{within}
use denote.Struct.Owning.{shape}
use denote.Triple.Walked.{Stays, stay_dropped, walk_of}
use Rattle.core.proofs.alloc.Calls.{Goes-blank}
use Rattle.std.proofs.raw_atomic.Walks.{proved_at, leaves}
use Rattle.std.specs.Box.Ownership.{box_owns}
use Rattle.std.specs.declared.alloc.Global.{Global}
use Rattle.std.specs.contracts.alloc.Global as global
use Rattle.std.proofs.alloc.Global.TheLaws as global_laws
use Rattle.std.specs.contracts.impls.GlobalAllocator.TheImpl.{ghosts}
use Rattle.garde_library.specs.Room.{scratch_row}
use Rattle.garde_library.proofs.Values.{both, Loose, loose_good, loose_out}
use Rattle.garde_library.specs.contracts.room.Room as room
use Rattle.garde_library.specs.contracts.room.Room.of as f
use Rattle.garde_library.specs.contracts.room.Room.of.Key.{name as #self}
use Rattle.garde_library.proofs.room.Room.of.Statement.{statement}
use Rattle.garde_library.proofs.room.Room.of.Code as code

pub of_spec : {M : Type 1} → statement M
of_spec 𝓤 𝓛 𝓜 𝓡 wired =
    let H = 𝓛.H in let 𝓣 = tables 𝓤 H 𝓜 𝓡 𝓡.env in let c = f.clauses 𝓛 𝓜.mem 𝓡.returns in
    let R = scratch_row in let Z = global.the_row in let LZ = global_laws.the_row_laws in
    let hs : Stays f.ended.signature.params f.ended.kept = (stay_dropped (plain (λ _. Loose R Z LZ ghosts)) yes, tt) in
    proved_at 𝓛 f.ended hs c 𝓜 𝓡 (Goes-blank 𝓛 0 (plain (λ _. Loose R Z LZ ghosts)) yes (λ κs x f. tt), tt) #self code.function (code.unfolded 𝓤 H 𝓜 𝓡 wired) (λ z are.
    let Post : Val → SProp 𝓤 = (walk_of 𝓛 f.ended hs c).post z in let Run : List Val → SProp 𝓤 = λ ws. WpFn 𝓤 H 𝓣.C 𝓣.Λ code.function ws Post in let v = z.0.3.0 in
    qed 𝓛 ((‵ ftrue ⊛ ‵ (owns (types_at f.ended.signature.params z.0.0) z.0.3 z.0.4)) ∷ raw ((c z.0.0 z.0.3).requires z.1) ∷ []) ∵ split ! $ move ! (1 ∷ []) $ fsplit ! $
    loose_out R Z LZ ghosts ! v z.0.4.0 (λ b o h e ws fits.
    let w : Val = both (vptr b o) h in let made : Val = vstruct (vcons (vptr b o) (vcons (vbool true) vnil)) in
    suffices ! (Run (w ∷ [])) (subst (λ (us : List Val). ent 𝓤 (Run (w ∷ [])) (Run us)) (sym (λ i. ws i ++ [])) (id⊢ 𝓤 (Run (w ∷ [])))) $
    enter ! 𝓣.C 𝓣.Λ code.function (w ∷ []) Post $ alloc_all ! (λ l. pass_all ! refl (loose_good R Z LZ ghosts b o h fits, tt) $
    sets ! (of_opd ! (get_in ! (fld ! refl (stop !)) (sub ! 0 refl (whole !)))) refl (tt, tt) $ sets ! (of_opd ! (get ! refl)) refl (tt, tt) $
    sets ! (agg ! (and_then ! (get ! refl) (and_then ! (true_lit !) (no_more !)))) refl (tt, (tt, (tt, tt))) $
    fpack ! (Global × scratch_row.Denot) (λ x. box_owns (ghosts.dealloc_token x.0) scratch_row (block_ptr b o) x.1) (v.alloc, v.value) $
    nothing ! $ feq_i ! (List Val) (vbool true ∷ []) (vbool true ∷ []) refl $ fjoin ! $ feq_i ! (List Val) (vptr b o ∷ []) (vptr b o ∷ []) refl $ fjoin ! $
    feq_i ! (List Val) (made ∷ []) (made ∷ []) refl $ fjoin ! $
    fpack ! (Valss (RawPtr ∷ Boolean ∷ [])) (within (shape room.the_type) (block_ptr b o, (true, tt)) (made ∷ [])) (vptr b o ∷ [], (vbool true ∷ [], tt)) $ fjoin ! $
    nothing ! $ nothing ! $ fjoin ! $ returns ! (look_at ! 0 refl) $ free_all ! refl $ keep ! (4 ∷ 0 ∷ 1 ∷ 5 ∷ []) $
    by ! (leaves 𝓛 f.ended hs c z made (record { at = block_ptr b o; full = true }) (tt, tt) (tt, tt)))))
