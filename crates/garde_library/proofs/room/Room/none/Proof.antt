-- `none` owns nothing. A walk of its MIR.
use Rattle.std.proofs.Common.{List, [], ◌∷◌, refl}
use mathlib.Core.Bool.{false}
use mir.Val.{Val, vbool, vint, vstruct, vcons, vnil}
use mir.Syntax.{w64}
use lib.Dec.{lit<}
use base.Logic.{SProp}
use base.Fml.{ftrue}
use types.Kit.{‵, raw, ◌⊛◌, ◌$◌, ◌∵◌, !, qed, by, move, fjoin, fpack, feq_i, split}
use types.Part.{agg}
use types.Run.{lit, false_lit, and_then, no_more, returns, enter}
use types.ByLocal.{alloc_all, pass_all, free_all, look_at, sets}
use contract.Running.{tables}
use denote.RattleType.{Valss}
use denote.Builtin.{RawPtr}
use denote.Plain.{Boolean}
use denote.RawPtr.{null_ptr}
use denote.Steps.{nothing}
use denote.Struct.Struct.{within}
use denote.Struct.Owning.{shape}
use denote.Triple.Walked.{walk_of}
use Rattle.std.proofs.raw_atomic.Walks.{proved_at, leaves}
use Rattle.garde_library.specs.contracts.room.Room as room
use Rattle.garde_library.specs.contracts.room.Room.none as f
use Rattle.garde_library.specs.contracts.room.Room.none.Key.{name as #self}
use Rattle.garde_library.proofs.room.Room.none.Statement.{statement}
use Rattle.garde_library.proofs.room.Room.none.Code as code

abbrev word : Val
word = vstruct (vcons (vint w64 0) (vcons (vbool false) vnil))

pub none_spec : {M : Type 1} → statement M
none_spec 𝓤 𝓛 𝓜 𝓡 wired =
    let H = 𝓛.H in let 𝓣 = tables 𝓤 H 𝓜 𝓡 𝓡.env in let c = f.clauses 𝓛 𝓜.mem 𝓡.returns in
    proved_at 𝓛 f.ended tt c 𝓜 𝓡 tt #self code.function (code.unfolded 𝓤 H 𝓜 𝓡 wired) (λ z are.
    let Post : Val → SProp 𝓤 = (walk_of 𝓛 f.ended tt c).post z in
    qed 𝓛 ((‵ ftrue ⊛ ‵ ftrue) ∷ raw ((c z.0.0 z.0.3).requires z.1) ∷ []) ∵
    enter ! 𝓣.C 𝓣.Λ code.function [] Post $ alloc_all ! (λ l. pass_all ! refl tt $
    sets ! (agg ! (and_then ! (lit ! tt) (and_then ! (false_lit !) (no_more !)))) refl (tt, (record { fits = lit< tt }, (tt, tt))) $
    nothing ! $ nothing ! $ feq_i ! (List Val) (vbool false ∷ []) (vbool false ∷ []) refl $ fjoin ! $ feq_i ! (List Val) (vint w64 0 ∷ []) (vint w64 0 ∷ []) refl $ fjoin ! $
    feq_i ! (List Val) (word ∷ []) (word ∷ []) refl $ fjoin ! $
    fpack ! (Valss (RawPtr ∷ Boolean ∷ [])) (within (shape room.the_type) (null_ptr, (false, tt)) (word ∷ [])) (vint w64 0 ∷ [], (vbool false ∷ [], tt)) $ fjoin ! $
    returns ! (look_at ! 0 refl) $ free_all ! refl $ move ! (1 ∷ []) $ split ! $
    by ! (leaves 𝓛 f.ended tt c z word (record { at = null_ptr; full = false }) tt tt)))
