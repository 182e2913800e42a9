-- The machine values of a handle. Assumes `Logic`.
use Rattle.std.proofs.Common.{◌≡◌, ℕ, List, [], ◌∷◌, ◌++◌, refl, subst, Option, None, Some}
use seplogic.Ra.Ura.{Ura}
use mir.Raw.{raw as bare}
use mir.Val.{Val, vptr, vstruct, vcons, vnil, of_list}
use base.Fml.{ftrue}
use base.Logic.{ent, never, guard, guard_i, via, fst∗, snd∗}
use types.Logic.{Logic, sem}
use contract.Monad.{fact_use}
use types.Kit.{Item, Goal, Seq, Step, step, ‵, given, ◌$◌, rewrite, drop, use1, learn, fsplit, fjoin, fpick, fpack, feq_i, feq_l}
use denote.RattleType.{Valss}
use denote.Memory.{lone}
use denote.Builtin.{RawPtr}
use base.Fraction.{full_share}
use denote.RawPtr.{Ptr, block_ptr, null_ptr, ptr_val, lies_at, in_a_block, Testable}
use denote.Steps.{nothing}
use denote.Struct.Struct.{within}
use denote.Struct.Owning.{shape}
use Rattle.std.specs.Box.Ownership.{box_owns}
use Rattle.std.proofs.GlobalToken.{dealloc_token-Testable}
use Rattle.semver_c.specs.Handle.{heap_token, owns_held}
use Rattle.semver_c.specs.declared.handles.Held.{Held}
use Rattle.semver_c.specs.contracts.handles.Held as row
use Rattle.semver_c.specs.contracts.handles.Handle as handle

abbrev pub lone_val : Val → Val
lone_val v = vstruct (vcons v vnil)

module _ {M : Type 1} {𝓤 : Ura M} {𝓛 : Logic 𝓤} {K : Type 0} {Γ : List (Item 𝓤)} {G : Goal 𝓤 𝓛.H} where
  pub held_out : K → (d : (handle.the_row).Denot) (vs : List Val) (x : Held) → d.value ≡ Some x
      → ((b o : ℕ) → d.at ≡ block_ptr b o → vs ≡ lone_val (vptr b o) ∷ [] → Seq K 𝓛 (‵ (box_owns heap_token row.the_row (block_ptr b o) x) ∷ Γ) G)
      → Seq K 𝓛 (‵ ((handle.the_row).own_val d vs) ∷ Γ) G
  held_out t d vs x is k =
      fsplit t $ fpick t (λ vss. fsplit t $ feq_l t (λ ev. fsplit t $ feq_l t (λ ep. drop t $
      rewrite t 0 (λ (v : Option Held). ‵ (owns_held d.at v)) is refl $
      in_a_block t d.at (λ p. box_owns heap_token row.the_row p x) (fst∗ 𝓤 (never 𝓤) (sem 𝓛 (heap_token (bare (lone (row.the_row).mir)) null_ptr))) (λ b o e. k b o e
      (subst (λ (p : Ptr). vs ≡ vstruct (of_list (ptr_val p ∷ [])) ∷ []) e (subst (λ (ps : List Val). vs ≡ vstruct (of_list (ps ++ [])) ∷ []) ep ev))))))

  pub held_in : K → (b o : ℕ) (x : (row.the_row).Denot)
      → Step K 𝓛 (‵ ((handle.the_row).own_val (record { at = block_ptr b o; value = Some x }) (lone_val (vptr b o) ∷ [])) ∷ Γ) G (‵ (box_owns heap_token row.the_row (block_ptr b o) x) ∷ Γ) G
  held_in t b o x = step (λ s. let v : Val = lone_val (vptr b o) in
      nothing t $ feq_i t (List Val) (vptr b o ∷ []) (vptr b o ∷ []) refl $ fjoin t $ feq_i t (List Val) (v ∷ []) (v ∷ []) refl $ fjoin t $
      fpack t (Valss (RawPtr ∷ [])) (within (shape handle.the_type) (block_ptr b o, tt) (v ∷ [])) (vptr b o ∷ [], tt) $ fjoin t $ s)

  pub none_in : K → Step K 𝓛 (‵ ((handle.the_row).own_val (record { at = null_ptr; value = None }) (lone_val (ptr_val null_ptr) ∷ [])) ∷ Γ) G Γ G
  none_in t = step (λ s. let v : Val = lone_val (ptr_val null_ptr) in
      nothing t $ fpack t (null_ptr ≡ null_ptr) (λ _. ftrue) refl $ nothing t $ feq_i t (List Val) (ptr_val null_ptr ∷ []) (ptr_val null_ptr ∷ []) refl $ fjoin t $ feq_i t (List Val) (v ∷ []) (v ∷ []) refl $ fjoin t $
      fpack t (Valss (RawPtr ∷ [])) (within (shape handle.the_type) (null_ptr, tt) (v ∷ [])) (ptr_val null_ptr ∷ [], tt) $ fjoin t $ s)

module _ {M : Type 1} {𝓤 : Ura M} (𝓛 : Logic 𝓤) where
  tested : (p : Ptr) (x : (row.the_row).Denot) → ent 𝓤 (sem 𝓛 (box_owns heap_token row.the_row p x)) (guard 𝓤 (Testable p) (sem 𝓛 (box_owns heap_token row.the_row p x)))
  tested p x = fact_use 𝓤 (Testable p) (via 𝓤 _ (snd∗ 𝓤 (sem 𝓛 (lies_at row.the_row full_share p x)) (sem 𝓛 (heap_token (bare (lone (row.the_row).mir)) p))) (dealloc_token-Testable 𝓛 (record { memory = record { seal = tt } }) (bare (lone (row.the_row).mir)) p)) (guard_i 𝓤 (Testable p) _)

module _ {M : Type 1} {𝓤 : Ura M} {𝓛 : Logic 𝓤} {K : Type 0} {Γ : List (Item 𝓤)} {G : Goal 𝓤 𝓛.H} where
  -- a handle is null, or has a value at a pointer that may be compared with null
  pub either_held : K → (p : Ptr) (v : Option Held) → (p ≡ null_ptr → v ≡ None → Seq K 𝓛 Γ G)
      → ((b o : ℕ) (x : (row.the_row).Denot) → p ≡ block_ptr b o → v ≡ Some x → Testable (block_ptr b o) → Seq K 𝓛 (‵ (box_owns heap_token row.the_row (block_ptr b o) x) ∷ Γ) G)
      → Seq K 𝓛 (‵ (owns_held p v) ∷ Γ) G
  either_held t p None none one = fpick t (λ e. drop t $ none e refl)
  either_held t p (Some x) none one =
      in_a_block t p (λ q. box_owns heap_token row.the_row q x) (fst∗ 𝓤 (never 𝓤) (sem 𝓛 (heap_token (bare (lone (row.the_row).mir)) null_ptr))) (λ b o e.
      use1 𝓛 (given (Testable (block_ptr b o)) (‵ (box_owns heap_token row.the_row (block_ptr b o) x))) (tested 𝓛 (block_ptr b o) x) $ learn t (λ may. one b o x e refl may))
