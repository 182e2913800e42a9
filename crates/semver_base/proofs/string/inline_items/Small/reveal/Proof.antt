-- `reveal` returns what a `&` holds.
use Rattle.std.proofs.Common.{List, [], ◌∷◌, refl}
use mir.Syntax.{a_type, dnil, named}
use mir.Val.{Val, vptr, vunit}
use mir.MapTy.{inst_fn}
use base.Logic.{SProp, emp}
use base.Fml.{Fml, ftrue, fsep, fhide, flft}
use types.Kit.{‵, raw, ◌⊛◌, ◌$◌, ◌∵◌, !, qed, by, move, keep, drop, split, fsplit, fjoin, use1, feq_i, flt_l}
use types.Run.{returns, enter, unit_lit, of_opd}
use types.ByLocal.{alloc_all, pass_all, free_all, look_at, sets}
use contract.Monad.{fact_i}
use contract.Running.{tables}
use denote.Exit.{yes}
use denote.RattleType.{RattleType, owns}
use denote.Signature.{types_at, plain}
use denote.Builtin.{RefOf}
use denote.Memory.{hidden_shr}
use denote.Opens.{unhide}
use denote.Ref.{shr_vals, shr_Tells}
use denote.Steps.{nothing}
use denote.Param.{param, bounded}
use denote.Struct.Lending.{lent_out}
use denote.Triple.Walked.{Stays, stay_dropped, walk_of, Goes-dropped}
use Rattle.std.specs.Mem.{FitsInMemory}
use Rattle.std.proofs.raw_atomic.Walks.{proved}
use Rattle.semver_base.proofs.Tokens.{Token, ends}
use Rattle.semver_base.specs.Ownership.{fits_in_memory}
use Rattle.semver_base.specs.contracts.string.inline_items.Small as small
use Rattle.semver_base.specs.contracts.string.inline_items.Small.reveal.{ended, clauses}
use Rattle.semver_base.specs.contracts.string.inline_items.Small.reveal.Key.{name as #self}
use Rattle.semver_base.proofs.string.inline_items.Small.reveal.Statement.{statement}
use Rattle.semver_base.proofs.string.inline_items.Small.reveal.Code as code

pub reveal_spec : {M : Type 1} → statement M
reveal_spec 𝓤 𝓛 𝓜 𝓡 wired T L =
    let H = 𝓛.H in let 𝓣 = tables 𝓤 H 𝓜 𝓡 𝓡.env in let R : RattleType = param 0 T in let En = ended T in let c = clauses T 𝓛 𝓜.mem 𝓡.returns in
    let inst = bounded (a_type ∷ []) (T, tt) dnil in let fn = inst_fn inst code.function in let Ref = RefOf (0 ∷ []) tt (plain (λ _. small.the_row R)) (λ _. tt) in
    let hs : Stays En.signature.params En.kept = (stay_dropped Ref yes, tt) in
    proved 𝓛 En hs c 𝓜 𝓡 (Goes-dropped 𝓛 2 Ref yes (λ κs x f. refl), tt) (#self inst) fn (code.unfolded 𝓤 H 𝓜 𝓡 wired (T, tt))
    (λ κs. (shr_vals, tt)) (λ κs. (shr_Tells (named 0) κs.0 (small.the_row R), tt)) (λ κs qs bounds a gh are.
    let b = a.0.ref_ptr.0 in let o = a.0.ref_ptr.1 in
    let y : (walk_of 𝓛 En hs c).Ghost = ((κs, qs, bounds, a, (vptr b o ∷ [], tt)), gh) in let Post : Val → SProp 𝓤 = (walk_of 𝓛 En hs c).post y in
    let toks : Fml = fsep (flft κs.0 qs.0) (fsep (flft κs.1.0 qs.1.0) ftrue) in
    qed 𝓛 ((‵ toks ⊛ ‵ (owns (types_at En.signature.params κs) a y.0.4)) ∷ raw ((c κs a).requires gh) ∷ []) ∵ keep ! (0 ∷ []) $ split ! $
    fsplit ! $ move ! (2 ∷ []) $ fsplit ! $ fsplit ! $ keep ! (1 ∷ 3 ∷ 4 ∷ []) $
    enter ! 𝓣.C 𝓣.Λ fn (vptr b o ∷ []) Post $ alloc_all ! (λ l. pass_all ! refl ((tt, tt), tt) $
    use1 𝓛 (‵ (hidden_shr (Token R) κs.0 (record {}, tt) b o) ⊛ ‵ (fhide (fits_in_memory R))) (lent_out 𝓛 (small.struct R) (small.the_codes T.Denot R.coded) (small.the_heap R) (small.the_lent R) κs.0 a.0.now b o) $ split ! $ drop ! $ unhide ! $
    flt_l ! (λ known. sets ! (of_opd ! (unit_lit !)) refl (tt, tt) $ feq_i ! (List Val) (vunit ∷ []) (vunit ∷ []) refl $
    move ! (1 ∷ 2 ∷ []) $ fjoin ! $ nothing ! $ nothing ! $ fjoin ! $
    returns ! (look_at ! 0 refl) $ free_all ! refl $ keep ! (1 ∷ 0 ∷ 2 ∷ []) $ by ! (ends 𝓛 En hs c y vunit tt (tt, tt) (tt, tt) (fact_i 𝓤 (FitsInMemory R) (emp 𝓤) known)))))
