-- `new` holds what it requires.
use Rattle.std.proofs.Common.{[], ◌∷◌, ◌^◌, refl}
use mir.Syntax.{a_type, dnil}
use mir.Val.{Val}
use mir.MapTy.{inst_fn}
use base.Logic.{SProp, id⊢}
use base.Fml.{ftrue, flft}
use prog.Memory.{size}
use types.Kit.{‵, raw, ◌⊛◌, ◌$◌, ◌∵◌, !, qed, by, move, keep, drop, split, fjoin, use0, use1, flt_i}
use types.Run.{no_more, and_then, returns, enter}
use types.ByLocal.{alloc_all, pass_all, free_all, look_at, get, sets}
use types.Part.{agg}
use contract.Monad.{fact}
use contract.BorrowLft.{◌⊑◌}
use contract.Running.{tables}
use denote.RattleType.{RattleType, owns}
use denote.Signature.{types_at}
use denote.Steps.{nothing, heard}
use denote.Param.{param, layout, bounded}
use denote.Triple.Walked.{Stays, walk_of}
use Rattle.std.specs.Mem.{FitsInMemory}
use Rattle.std.proofs.raw_atomic.Walks.{proved_at}
use Rattle.semver_base.proofs.Tokens.{token, Token, token_made, ends}
use Rattle.semver_base.specs.contracts.string.inline_items.Small.new.{ended, clauses}
use Rattle.semver_base.specs.contracts.string.inline_items.Small.new.Key.{name as #self}
use Rattle.semver_base.proofs.string.inline_items.Small.new.Statement.{statement}
use Rattle.semver_base.proofs.string.inline_items.Small.new.Code as code

pub new_spec : {M : Type 1} → statement M
new_spec 𝓤 𝓛 𝓜 𝓡 wired T L =
    let H = 𝓛.H in let 𝓣 = tables 𝓤 H 𝓜 𝓡 𝓡.env in let R : RattleType = param 0 T in let En = ended T in let c = clauses T 𝓛 𝓜.mem 𝓡.returns in
    let inst = bounded (a_type ∷ []) (T, tt) dnil in let fn = inst_fn inst code.function in
    let hs : Stays En.signature.params En.kept = tt in
    proved_at 𝓛 En hs c 𝓜 𝓡 tt (#self inst) fn (code.unfolded 𝓤 H 𝓜 𝓡 wired (T, tt)) (λ z are.
    let Post : Val → SProp 𝓤 = (walk_of 𝓛 En hs c).post z in
    let toks = ‵ (flft z.0.0.0 z.0.1.0) ⊛ ‵ ftrue in
    qed 𝓛 ((toks ⊛ ‵ (owns (types_at En.signature.params z.0.0) z.0.3 z.0.4)) ∷ raw ((c z.0.0 z.0.3).requires z.1) ∷ []) ∵ split ! $ move ! (0 ∷ 2 ∷ []) $ move ! (1 ∷ 0 ∷ []) $
    use1 𝓛 (raw (fact 𝓤 (z.0.0.0 ⊑ T.lives)) ⊛ raw (fact 𝓤 (FitsInMemory T))) (id⊢ 𝓤 _) $ split ! $ drop ! $ heard ! (FitsInMemory T) (λ small. keep ! (0 ∷ []) $
    enter ! 𝓣.C 𝓣.Λ fn [] Post $ alloc_all ! (λ l. pass_all ! refl tt $
    flt_i ! (size (layout T)) (2 ^ 63) small $ use0 𝓛 (‵ ((Token R).own_val (record {}, tt) (token ∷ []))) (token_made R 𝓛) $ fjoin ! $
    sets ! (agg ! (no_more !)) refl (tt, tt) $ sets ! (agg ! (and_then ! (get ! refl) (no_more !))) refl (tt, (tt, tt)) $ nothing ! $
    returns ! (look_at ! 0 refl) $ free_all ! refl $ keep ! (2 ∷ 0 ∷ 1 ∷ []) $ by ! (ends 𝓛 En hs c z token (record { of = record {} }) tt tt (id⊢ 𝓤 _)))))
