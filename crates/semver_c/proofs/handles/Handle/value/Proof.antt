-- `value` lends the value where it lies, and the handle follows it.
use Rattle.std.proofs.Common.{◌≡◌, ℕ, List, [], ◌∷◌, ◌++◌, refl, sym, ap, ◌∙◌, subst, Option, Some}
use seplogic.Ra.Ura.{Ura}
use mir.Raw.{raw as bare}
use mir.Syntax.{named}
use mir.Val.{Val, vptr}
use base.Fraction.{full_share}
use base.Logic.{SProp, ent, sep, emp, fst∗, never, id⊢}
use base.Fml.{Lft, GName, Share, Fml, ftrue, fsep, flft}
use prog.Wp.{WpFn}
use types.Logic.{Logic, sem}
use types.Kit.{‵, raw, ◌⊛◌, some, later, at_ret, ◌$◌, ◌∵◌, !, qed, by, done, move, keep, split, split3, join, pick, await, group, fsplit, fsplit3, fjoin, fpack, suffices, rewrite, use0, use1}
use types.Run.{stop, fld, load, of_opd, addr, first, blocks, exec, returns, enter}
use types.ByLocal.{alloc_all, pass_all, free_all, look_at, get, through, sets, sets_last, env}
use types.Part.{sub, whole, look_in}
use contract.Monad.{fact, fact_i}
use contract.Running.{tables}
use denote.Exit.{no}
use denote.Follow.{follows, Part, lends_Part}
use denote.RattleType.{RattleType, owns}
use denote.Laws.{shows}
use denote.Memory.{cell_at, part_at, part_of, mem, lone}
use denote.Ref.{MutRef}
use denote.Signature.{types_at, plain, mut_ref_to}
use denote.RawPtr.{Ptr, block_ptr, null_ptr, in_a_block}
use denote.Steps.{nothing, heard, opens, peeks}
use denote.Triple.Walked.{Stays, stay_dropped, walk_of, Goes-spent_ref}
use Rattle.std.proofs.VecSteps.Shapes.{after}
use Rattle.std.proofs.raw_atomic.Walks.{proved_at, leaves}
use Rattle.std.specs.Box.Ownership.{box_owns}
use Rattle.semver_c.specs.Handle.{owns_held, heap_token, Holds}
use Rattle.semver_c.specs.Lent.{with_held}
use Rattle.semver_c.specs.declared.handles.Held.{Held}
use Rattle.semver_c.specs.declared.handles.Handle.{Handle}
use Rattle.semver_c.specs.contracts.handles.Held as row
use Rattle.semver_c.specs.contracts.handles.Handle as handle
use Rattle.semver_c.proofs.handles.Handle.TheLaws.{lowers}
use Rattle.semver_c.proofs.HandleValues.{lone_val, held_in}
use Rattle.semver_c.specs.contracts.handles.Handle.value.{ended, clauses}
use Rattle.semver_c.specs.contracts.handles.Handle.value.Key.{name as #self}
use Rattle.semver_c.proofs.handles.Handle.value.Statement.{statement}
use Rattle.semver_c.proofs.handles.Handle.value.Code as code

abbrev R : RattleType
R = row.the_row

abbrev Hd : RattleType
Hd = handle.the_row

-- all of the handle but its value
abbrev Rest : ℕ → ℕ → ℕ → ℕ → Fml
Rest b o b' o' = fsep (heap_token (bare (lone R.mir)) (block_ptr b o)) (cell_at full_share Hd.mir (lone_val (vptr b o) ∷ []) b' o')

back : {M : Type 1} {𝓤 : Ura M} (𝓛 : Logic 𝓤) (b o b' o' : ℕ) (h : Handle) → h.at ≡ block_ptr b o → (w : Held) → ent 𝓤 (sep 𝓤 (sem 𝓛 ((mem R).own_at w b o)) (sem 𝓛 (Rest b o b' o'))) (sem 𝓛 ((mem Hd).own_at (with_held h w) b' o'))
unfolding part_of
back 𝓛 b o b' o' h is w =
    qed 𝓛 (‵ (part_at R full_share w b o) ∷ ‵ (Rest b o b' o') ∷ []) ∵ move ! (1 ∷ []) $ fsplit ! $ move ! (2 ∷ 0 ∷ []) $ fjoin ! $ held_in ! b o w $
    rewrite ! 0 (λ (p : Ptr). ‵ (Hd.own_val (record { at = p; value = Some w }) (lone_val (vptr b o) ∷ []))) (sym is) refl $ move ! (1 ∷ 0 ∷ []) $ fjoin ! $
    fpack ! (List Val) (λ us. fsep (cell_at full_share Hd.mir us b' o') (Hd.own_val (with_held h w) us)) (lone_val (vptr b o) ∷ []) $ done !

pub value_spec : {M : Type 1} → statement M
value_spec 𝓤 𝓛 𝓜 𝓡 wired =
    let H = 𝓛.H in let 𝓣 = tables 𝓤 H 𝓜 𝓡 𝓡.env in let En = ended in let c = clauses 𝓛 𝓜.mem 𝓡.returns in let fn = code.function in
    let hs : Stays En.signature.params En.kept = (stay_dropped (mut_ref_to (0 ∷ []) tt (plain (λ _. Hd))) no, tt) in
    proved_at 𝓛 En hs c 𝓜 𝓡 (Goes-spent_ref 𝓛 1 (0 ∷ []) tt (plain (λ _. Hd)), tt) #self fn (code.unfolded 𝓤 H 𝓜 𝓡 wired) (λ z are.
    let κ : Lft = z.0.0.0 in let q : Share = z.0.1.0 in let a = z.0.3 in let vss = z.0.4 in let Post : Val → SProp 𝓤 = (walk_of 𝓛 En hs c).post z in let Run : List Val → SProp 𝓤 = λ ws. WpFn 𝓤 H 𝓣.C 𝓣.Λ fn ws Post in
    let b' : ℕ = a.0.ref_ptr.0 in let o' : ℕ = a.0.ref_ptr.1 in let γ : GName = a.0.ghost_name in let h : Handle = a.0.now in
    qed 𝓛 (((‵ (flft κ q) ⊛ ‵ ftrue) ⊛ ‵ (owns (types_at En.signature.params z.0.0) a vss)) ∷ raw ((c z.0.0 a).requires z.1) ∷ []) ∵
    move ! (1 ∷ []) $ heard ! (Holds h.value) (λ asked. let x : Held = asked.0 in split ! $ split ! $ move ! (2 ∷ []) $ fsplit ! $ fsplit3 ! $ keep ! (1 ∷ 2 ∷ 4 ∷ []) $ let us : List Val = vptr b' o' ∷ [] in
    suffices ! (Run us) (subst (λ (ws : List Val). ent 𝓤 (Run us) (Run ws)) (sym (λ i. are.0.0 i ++ [])) (id⊢ 𝓤 (Run us))) $
    enter ! 𝓣.C 𝓣.Λ fn us Post $ alloc_all ! (λ l. pass_all ! refl ((tt, tt), tt) $ let Ev = env fn.locals l in
    opens ! tt Hd b' o' (λ ts. move ! (1 ∷ []) $ peeks ! Hd _ (shows 𝓛 Hd) h ts (λ is. fsplit ! $ move ! (1 ∷ []) $
    rewrite ! 0 (λ (v : Option Held). ‵ (owns_held h.at v)) asked.1 refl $
    in_a_block ! h.at (λ p. box_owns heap_token R p x) (fst∗ 𝓤 (never 𝓤) (sem 𝓛 (heap_token (bare (lone R.mir)) null_ptr))) (λ b o e.
    rewrite ! 2 (λ (ws : List Val). ‵ (cell_at full_share Hd.mir ws b' o')) (lowers.val_is h ts is ∙ ap (λ (p : Ptr). lowers.lowered (record h { at = p }) ∷ []) e) refl $ fsplit ! $
    -- [the value; the right to free it; what the fields own; the handle's cell; the open borrow, in three entries]
    first ! $ blocks ! $
    sets ! (of_opd ! (load ! (through ! refl (fld ! refl (stop !))) (look_in ! 3 (sub ! 0 refl (whole !))))) refl (tt, tt) $ sets ! (of_opd ! (get ! refl)) refl (tt, tt) $
    sets_last ! (addr ! (through ! refl (stop !))) refl (tt, tt) $
    exec ! 𝓣.C 𝓣.Λ Ev (after 1 fn.body) (at_ret Ev Post) $ sets ! (of_opd ! (get ! refl)) refl (tt, tt) $
    move ! (1 ∷ 3 ∷ []) $ fjoin ! $ move ! (3 ∷ 4 ∷ 5 ∷ 1 ∷ 0 ∷ []) $ group ! 5 $
    use1 𝓛 (later (some (λ (γ' : GName). raw (Part 𝓛 Hd R (with_held h) (named 0) κ q b' o' b o γ (sem 𝓛 (Rest b o b' o')) (back 𝓛 b o b' o' h e) x γ'))))
    (lends_Part 𝓛 Hd R (with_held h) (named 0) κ q b' o' b o γ (sem 𝓛 (Rest b o b' o')) (back 𝓛 b o b' o' h e) (Hd.coded.code h) (Hd.coded.code h) x) $ await ! tt $ pick ! (λ γ'.
    returns ! (look_at ! 0 refl) $ free_all ! refl $ keep ! (0 ∷ []) $
    use1 𝓛 (‵ ((MutRef (named 0) κ R).own_val (record { ref_ptr = (b, o); ghost_name = γ'; now = x }) (vptr b o ∷ [])) ⊛ ‵ (flft κ q) ⊛ ‵ (follows Hd R γ γ' (with_held h))) (id⊢ 𝓤 _) $ split3 ! $
    use0 𝓛 (raw (fact 𝓤 (h.value ≡ Some x))) (fact_i 𝓤 (h.value ≡ Some x) (emp 𝓤) asked.1) $ move ! (3 ∷ 0 ∷ []) $ join ! $
    nothing ! $ nothing ! $ fjoin ! $ nothing ! $ move ! (4 ∷ 0 ∷ []) $ join ! $
    keep ! (0 ∷ 1 ∷ 3 ∷ 2 ∷ []) $ by ! (leaves 𝓛 En hs c z (vptr b o) (record { ref_ptr = (b, o); ghost_name = γ'; now = x }) (tt, tt) (tt, tt)))))))))
