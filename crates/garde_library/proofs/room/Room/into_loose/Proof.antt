-- `into_loose` gives the pointer back, where there is one. A walk of its MIR.
use Rattle.std.proofs.Common.{◌≡◌, List, [], ◌∷◌, ◌++◌, refl, sym, subst, ◌∙◌}
use mathlib.Core.Bool.{Bool, true, false}
use lib.Dec.{T, lit<}
use mir.Syntax.{impl, tnil, dnil}
use mir.Val.{Val, vbool, vstruct, vcons, vnil, of_list, has_ty, WT}
use base.Logic.{SProp, ent, id⊢}
use base.Fml.{ftrue}
use prog.Wp.{WpFn}
use types.Kit.{‵, raw, ◌⊛◌, at_ret, ◌$◌, ◌∵◌, !, qed, by, move, keep, drop, fsplit, fjoin, fpick, fpack, rewrite, suffices, use0, use1, feq_i, feq_l, split}
use types.Part.{agg, sub, whole}
use types.Run.{stop, fld, lit, of_opd, and_then, no_more, first, branches, exec, returns, enter}
use types.ByLocal.{alloc_all, pass_all, free_all, look_at, get, get_in, sets, sets_last, env}
use contract.Running.{tables}
use denote.Exit.{yes}
use denote.RattleType.{RattleType, Valss, owns}
use denote.Signature.{types_at, plain}
use denote.Builtin.{RawPtr}
use denote.Param.{layout}
use denote.RawPtr.{Ptr, block_ptr, null_ptr, ptr_val}
use denote.Steps.{nothing}
use types.Match.{live}
use denote.Struct.Struct.{within}
use denote.Struct.Owning.{shape}
use denote.Triple.Walked.{Stays, stay_dropped, walk_of}
use Rattle.core.proofs.alloc.Calls.{Al, Goes-blank, handle_tells}
use Rattle.core.proofs.alloc.Shapes.{after}
use Rattle.core.proofs.atomic.Steps.{Ptr-Good}
use Rattle.core.proofs.cell.Inside.{Good}
use Rattle.core.proofs.option.Made.{Some-of, none_of}
use Rattle.std.proofs.raw_atomic.Walks.{proved_at, leaves}
use Rattle.std.specs.Prelude.{Some, None}
use Rattle.std.specs.contracts.alloc.Global as global
use Rattle.std.specs.contracts.option.Option as option
use Rattle.std.proofs.alloc.Global.TheLaws as global_laws
use Rattle.std.specs.contracts.impls.GlobalAllocator.TheImpl.{ghosts}
use Rattle.std_alloc.proofs.ResultValues.{and_tt}
use Rattle.garde_library.specs.Room.{scratch_row, room_owns}
use Rattle.garde_library.specs.contracts.loose.Loose as loose
use Rattle.garde_library.proofs.Values.{both, Loose}
use Rattle.garde_library.specs.contracts.room.Room as room
use Rattle.garde_library.specs.contracts.room.Room.into_loose as f
use Rattle.garde_library.specs.contracts.room.Room.into_loose.Key.{name as #self}
use Rattle.garde_library.proofs.room.Room.into_loose.Statement.{statement}
use Rattle.garde_library.proofs.room.Room.into_loose.Code as code

abbrev L : RattleType
L = Loose scratch_row global.the_row global_laws.the_row_laws ghosts

abbrev handles : Al
handles = record { row = global.the_row; laws = global_laws.the_row_laws; g = ghosts; d = impl [] tnil dnil; drops = impl [] tnil dnil }

abbrev word : Ptr → Bool → Val
word p y = vstruct (vcons (ptr_val p) (vcons (vbool y) vnil))

word_good : (p : Ptr) (y : Bool) → Good (layout room.the_row) (word p y)
word_good (block_ptr b o) y = (tt, (tt, (tt, tt)))
word_good null_ptr y = (tt, (record { fits = lit< tt }, (tt, tt)))

both_good : (p : Ptr) (h : Val) → Good (layout global.the_row) h → T (has_ty (layout L) (both (ptr_val p) h)) × WT (both (ptr_val p) h)
both_good (block_ptr b o) h fits = (and_tt (has_ty (layout global.the_row) h) fits.0, (tt, (fits.1, tt)))
both_good null_ptr h fits = (and_tt (has_ty (layout global.the_row) h) fits.0, (record { fits = lit< tt }, (fits.1, tt)))

is_true : (y : Bool) → T y → y ≡ true
is_true true t = refl
is_true false t = absurd t

pub into_loose_spec : {M : Type 1} → statement M
into_loose_spec 𝓤 𝓛 𝓜 𝓡 wired =
    let H = 𝓛.H in let 𝓣 = tables 𝓤 H 𝓜 𝓡 𝓡.env in let c = f.clauses 𝓛 𝓜.mem 𝓡.returns in let fn = code.function in
    let hs : Stays f.ended.signature.params f.ended.kept = (stay_dropped (plain (λ _. room.the_row)) yes, (stay_dropped (plain (λ _. global.the_row)) yes, tt)) in
    proved_at 𝓛 f.ended hs c 𝓜 𝓡 (Goes-blank 𝓛 0 (plain (λ _. room.the_row)) yes (λ κs x f. tt), (Goes-blank 𝓛 0 (plain (λ _. global.the_row)) yes (λ κs x f. tt), tt)) #self fn (code.unfolded 𝓤 H 𝓜 𝓡 wired) (λ z are.
    let Post : Val → SProp 𝓤 = (walk_of 𝓛 f.ended hs c).post z in let Run : List Val → SProp 𝓤 = λ ws. WpFn 𝓤 H 𝓣.C 𝓣.Λ fn ws Post in let v = z.0.3.0 in let a = z.0.3.1.0 in
    qed 𝓛 ((‵ ftrue ⊛ ‵ (owns (types_at f.ended.signature.params z.0.0) z.0.3 z.0.4)) ∷ raw ((c z.0.0 z.0.3).requires z.1) ∷ []) ∵ split ! $ move ! (1 ∷ []) $ fsplit ! $
    -- [the handle; the allocator; the token; what is asked]
    fsplit ! $ fpick ! (λ vss. fsplit ! $ feq_l ! (λ ev. fsplit ! $ feq_l ! (λ ep. fsplit ! $ feq_l ! (λ ef. drop ! $ move ! (1 ∷ []) $ fsplit ! $ handle_tells handles ! a z.0.4.1.0 (λ h ea fits.
    let w : Val = word v.at v.full in
    let es : z.0.4.0 ≡ w ∷ [] = ev ∙ (λ i. vstruct (of_list (ep i ++ (ef i ++ []))) ∷ []) in
    suffices ! (Run (w ∷ h ∷ [])) (subst (λ (us : List Val). ent 𝓤 (Run (w ∷ h ∷ [])) (Run us)) (sym (λ i. es i ++ (ea i ++ []))) (id⊢ 𝓤 (Run (w ∷ h ∷ [])))) $
    enter ! 𝓣.C 𝓣.Λ fn (w ∷ h ∷ []) Post $ alloc_all ! (λ l. pass_all ! refl (word_good v.at v.full, (fits, tt)) $ let Ev = env fn.locals l in
    sets ! (of_opd ! (get_in ! (fld ! refl (stop !)) (sub ! 0 refl (whole !)))) refl (Ptr-Good v.at) $ sets ! (of_opd ! (get_in ! (fld ! refl (stop !)) (sub ! 1 refl (whole !)))) refl (tt, tt) $
    sets ! (of_opd ! (get ! refl)) refl (tt, tt) $ first ! $ branches ! (get ! refl)
    (λ hit. let p : Ptr = v.at in let out : Val = both (ptr_val p) h in let good = both_good p h fits in
    let some_good : Good (layout (option.the_row L)) (live 1 (of_list (out ∷ []))) = (and_tt (has_ty (layout L) out) good.0, (record { fits = lit< tt }, (good.1, tt))) in
    -- [what the handle owns; the allocator; ..; the token; what is asked]
    move ! (2 ∷ []) $ rewrite ! 0 (λ (y : Bool). ‵ (room_owns p y)) (is_true v.full hit) refl $ fpick ! (λ x.
    sets ! (of_opd ! (get ! refl)) refl (Ptr-Good p) $ sets ! (agg ! (and_then ! (get ! refl) (and_then ! (get ! refl) (no_more !)))) refl good $
    sets_last ! (agg ! (and_then ! (lit ! tt) (and_then ! (get ! refl) (no_more !)))) refl some_good $ exec ! 𝓣.C 𝓣.Λ Ev (after 4 fn.body) (at_ret Ev Post) $
    sets ! (of_opd ! (get ! refl)) refl some_good $
    nothing ! $ move ! (2 ∷ 0 ∷ []) $ fjoin ! $ feq_i ! (List Val) (ptr_val p ∷ []) (ptr_val p ∷ []) refl $ fjoin ! $ feq_i ! (List Val) (out ∷ []) (out ∷ []) refl $ fjoin ! $
    fpack ! (Valss (RawPtr ∷ global.the_row ∷ [])) (within (shape (loose.the_type scratch_row global.the_row ghosts)) (p, (a, tt)) (out ∷ [])) (ptr_val p ∷ [], (h ∷ [], tt)) $ fjoin ! $
    use1 𝓛 (‵ ((option.the_row L).own_val (Some (record { at = p; alloc = a; value = x.1 })) (live 1 (of_list (out ∷ [])) ∷ []))) (Some-of 𝓛 L (record { at = p; alloc = a; value = x.1 }) out) $
    nothing ! $ nothing ! $ fjoin ! $ nothing ! $ fjoin ! $ returns ! (look_at ! 0 refl) $ free_all ! refl $ keep ! (3 ∷ 0 ∷ 1 ∷ 4 ∷ []) $
    by ! (leaves 𝓛 f.ended hs c z (live 1 (of_list (out ∷ []))) (Some (record { at = p; alloc = a; value = x.1 })) (tt, (tt, tt)) (tt, (tt, tt)))))
    (λ miss. sets_last ! (agg ! (and_then ! (lit ! tt) (no_more !))) refl (tt, (record { fits = lit< tt }, tt)) $ exec ! 𝓣.C 𝓣.Λ Ev (after 4 fn.body) (at_ret Ev Post) $
    sets ! (of_opd ! (get ! refl)) refl (tt, (record { fits = lit< tt }, tt)) $ use0 𝓛 (‵ ((option.the_row L).own_val None (live 0 (of_list []) ∷ []))) (none_of 𝓛 L) $
    returns ! (look_at ! 0 refl) $ nothing ! $ nothing ! $ fjoin ! $ nothing ! $ fjoin ! $ free_all ! refl $ keep ! (3 ∷ 0 ∷ 1 ∷ 6 ∷ []) $
    by ! (leaves 𝓛 f.ended hs c z (live 0 (of_list [])) None (tt, (tt, tt)) (tt, (tt, tt)))))))))))
