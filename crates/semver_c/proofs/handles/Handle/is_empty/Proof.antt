-- `is_empty` compares the pointer with null.
use Rattle.std.proofs.Common.{◌≡◌, ℕ, List, [], ◌∷◌, ◌++◌, refl, sym, ap, ◌∙◌, subst, lit<, true, false, Option, None, Some}
use mir.Val.{Val, vptr, vbool}
use base.Fraction.{full_share}
use seplogic.Ra.Ura.{Ura}
use base.Logic.{SProp, ent, emp, emp∗, mono_l, sep, via, id⊢}
use base.Fml.{ftrue, flft}
use prog.Wp.{WpFn}
use types.Kit.{‵, raw, ◌⊛◌, ◌$◌, ◌∵◌, !, qed, by, move, keep, split, join, fsplit, fsplit3, fjoin, fjoin3, fpack, suffices, rewrite, use0, feq_i}
use types.Run.{stop, fld, load, of_opd, lit, bin, returns, enter}
use types.ByLocal.{alloc_all, pass_all, free_all, look_at, get, through, sets, is as is_val}
use types.Part.{sub, whole, look_in}
use contract.Monad.{fact, fact_i}
use contract.Running.{tables}
use denote.RattleType.{RattleType, owns}
use denote.Laws.{shows}
use denote.Memory.{cell_at}
use denote.Signature.{types_at, plain}
use denote.RawPtr.{Ptr, block_ptr, null_ptr, tests_null}
use denote.Steps.{nothing, opens, closes, peeks}
use denote.Triple.Walked.{Stays, stay_ref, walk_of, Goes-ref}
use Rattle.std.proofs.raw_atomic.Walks.{proved_at, leaves}
use Rattle.semver_c.specs.Handle.{owns_held, Holds}
use Rattle.semver_c.specs.declared.handles.Held.{Held}
use Rattle.semver_c.specs.contracts.handles.Handle as handle
use Rattle.semver_c.proofs.handles.Handle.TheLaws.{lowers}
use Rattle.semver_c.proofs.HandleValues.{either_held}
use Rattle.semver_c.specs.contracts.handles.Handle.is_empty.{ended, clauses}
use Rattle.semver_c.specs.contracts.handles.Handle.is_empty.Key.{name as #self}
use Rattle.semver_c.proofs.handles.Handle.is_empty.Statement.{statement}
use Rattle.semver_c.proofs.handles.Handle.is_empty.Code as code

both_facts : {M : Type 1} (𝓤 : Ura M) (φ ψ : Type 0) → φ → ent 𝓤 (fact 𝓤 ψ) (sep 𝓤 (fact 𝓤 φ) (fact 𝓤 ψ))
both_facts 𝓤 φ ψ x = via 𝓤 (sep 𝓤 (emp 𝓤) (fact 𝓤 ψ)) (emp∗ 𝓤 (fact 𝓤 ψ)) (mono_l 𝓤 (fact 𝓤 ψ) (fact_i 𝓤 φ (emp 𝓤) x))

pub is_empty_spec : {M : Type 1} → statement M
is_empty_spec 𝓤 𝓛 𝓜 𝓡 wired =
    let H = 𝓛.H in let 𝓣 = tables 𝓤 H 𝓜 𝓡 𝓡.env in let Hd : RattleType = handle.the_row in let En = ended in let c = clauses 𝓛 𝓜.mem 𝓡.returns in let fn = code.function in
    let hs : Stays En.signature.params En.kept = (stay_ref (0 ∷ []) tt (plain (λ _. Hd)), tt) in
    proved_at 𝓛 En hs c 𝓜 𝓡 (Goes-ref 𝓛 1 0 tt (plain (λ _. Hd)), tt) #self fn (code.unfolded 𝓤 H 𝓜 𝓡 wired) (λ z are.
    let κs = z.0.0 in let qs = z.0.1 in let a = z.0.3 in let vss = z.0.4 in let Post : Val → SProp 𝓤 = (walk_of 𝓛 En hs c).post z in let Run : List Val → SProp 𝓤 = λ ws. WpFn 𝓤 H 𝓣.C 𝓣.Λ fn ws Post in
    let b' : ℕ = a.0.ref_ptr.0 in let o' : ℕ = a.0.ref_ptr.1 in let h : Hd.Denot = a.0.now in
    qed 𝓛 (((‵ (flft κs.0 qs.0) ⊛ ‵ ftrue) ⊛ ‵ (owns (types_at En.signature.params κs) a vss)) ∷ raw ((c κs a).requires z.1) ∷ []) ∵
    split ! $ split ! $ move ! (2 ∷ []) $ fsplit ! $ fsplit3 ! $ keep ! (1 ∷ 2 ∷ 4 ∷ []) $ let us : List Val = vptr b' o' ∷ [] in
    suffices ! (Run us) (subst (λ (ws : List Val). ent 𝓤 (Run us) (Run ws)) (sym (λ i. are.0.0 i ++ [])) (id⊢ 𝓤 (Run us))) $
    enter ! 𝓣.C 𝓣.Λ fn us Post $ alloc_all ! (λ l. pass_all ! refl ((tt, tt), tt) $
    opens ! tt Hd b' o' (λ ts. move ! (1 ∷ []) $ peeks ! Hd _ (shows 𝓛 Hd) h ts (λ is. fsplit ! $ move ! (1 ∷ []) $
    let Cell = λ (ws : List Val). ‵ (cell_at full_share Hd.mir ws b' o') in let word = λ (p : Ptr) (e : h.at ≡ p). lowers.val_is h ts is ∙ ap (λ (p : Ptr). lowers.lowered (record h { at = p }) ∷ []) e in
    -- [what is held; what the fields own; the handle's cell; the open borrow, in three entries]
    either_held ! h.at h.value
    (λ is_null is_none. rewrite ! 1 Cell (word null_ptr is_null) refl $
    sets ! (of_opd ! (load ! (through ! refl (fld ! refl (stop !))) (look_in ! 1 (sub ! 0 refl (whole !))))) refl (tt, record { fits = lit< tt }) $
    sets ! (is_val ! (bin ! (get ! refl) (lit ! tt) tt) refl) refl (tt, tt) $
    rewrite ! 1 Cell (sym (word null_ptr is_null)) refl $
    nothing ! $ fpack ! (null_ptr ≡ null_ptr) (λ _. ftrue) refl $
    rewrite ! 0 (λ (p : Ptr). ‵ (owns_held p None)) (sym is_null) refl $ rewrite ! 0 (λ (v : Option Held). ‵ (owns_held h.at v)) (sym is_none) refl $
    move ! (1 ∷ 0 ∷ []) $ fjoin ! $ move ! (1 ∷ []) $ closes ! tt Hd h ts b' o' $ returns ! (look_at ! 0 refl) $ free_all ! refl $
    feq_i ! (List Val) vss.0 (vptr b' o' ∷ []) are.0.0 $ fjoin3 ! $ nothing ! $ move ! (1 ∷ 0 ∷ []) $ fjoin ! $ nothing ! $ move ! (2 ∷ 0 ∷ []) $ join ! $
    feq_i ! (List Val) (vbool true ∷ []) (vbool true ∷ []) refl $
    use0 𝓛 (raw (sep 𝓤 (fact 𝓤 (h ≡ h)) (fact 𝓤 (h.value ≡ None)))) (via 𝓤 (fact 𝓤 (h.value ≡ None)) (fact_i 𝓤 (h.value ≡ None) (emp 𝓤) is_none) (both_facts 𝓤 (h ≡ h) (h.value ≡ None) refl)) $
    keep ! (2 ∷ 3 ∷ 1 ∷ 0 ∷ []) $ by ! (leaves 𝓛 En hs c z (vbool true) true (h, tt) (tt, tt)))
    (λ b o x is_block is_some may. rewrite ! 2 Cell (word (block_ptr b o) is_block) refl $
    sets ! (of_opd ! (load ! (through ! refl (fld ! refl (stop !))) (look_in ! 2 (sub ! 0 refl (whole !))))) refl (tt, tt) $
    sets ! (is_val ! (bin ! (get ! refl) (lit ! tt) (tests_null (block_ptr b o) may)) refl) refl (tt, tt) $
    rewrite ! 2 Cell (sym (word (block_ptr b o) is_block)) refl $
    rewrite ! 0 (λ (p : Ptr). ‵ (owns_held p (Some x))) (sym is_block) refl $ rewrite ! 0 (λ (v : Option Held). ‵ (owns_held h.at v)) (sym is_some) refl $
    move ! (1 ∷ 0 ∷ []) $ fjoin ! $ move ! (1 ∷ []) $ closes ! tt Hd h ts b' o' $ returns ! (look_at ! 0 refl) $ free_all ! refl $
    feq_i ! (List Val) vss.0 (vptr b' o' ∷ []) are.0.0 $ fjoin3 ! $ nothing ! $ move ! (1 ∷ 0 ∷ []) $ fjoin ! $ nothing ! $ move ! (2 ∷ 0 ∷ []) $ join ! $
    feq_i ! (List Val) (vbool false ∷ []) (vbool false ∷ []) refl $
    use0 𝓛 (raw (sep 𝓤 (fact 𝓤 (h ≡ h)) (fact 𝓤 (Holds h.value)))) (via 𝓤 (fact 𝓤 (Holds h.value)) (fact_i 𝓤 (Holds h.value) (emp 𝓤) (x, is_some)) (both_facts 𝓤 (h ≡ h) (Holds h.value) refl)) $
    keep ! (2 ∷ 3 ∷ 1 ∷ 0 ∷ []) $ by ! (leaves 𝓛 En hs c z (vbool false) false (h, tt) (tt, tt)))))))
