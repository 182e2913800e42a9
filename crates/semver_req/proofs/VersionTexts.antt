-- From what the version parser answers to which prefixes are viable.
use Rattle.std.proofs.Common.{◌≡◌, ◌<◌, ℕ, Bor, true, List, [], ◌∷◌, ◌++◌, length, Option, Some, None, refl, sym, ap, subst, ◌∙◌, arith, append_assoc, append-nil, IsUtf8, codes, inl, inr}
use Rattle.std.specs.List.{list_all}
use Rattle.std.specs.Str.{trim}
use Rattle.std.proofs.lemmas.Bool.{and_parts}
use Rattle.std.proofs.lemmas.Str.{IsUtf8-append, IsUtf8-nil, NoCharPasses-append}
use Rattle.semver_base.specs.Grammar.{Optional, Prefixed}
use Rattle.semver_base.specs.Lexical.{IsByte, IsWhitespace}
use Rattle.semver_base.specs.VersionGrammar.{AllNumbersFit, IsLead, IsTriple, IsVersion, is_version, version_of}
use Rattle.semver_base.specs.declared.lexical.values.Qualifier.{Qualifier}
use Rattle.semver_base.specs.declared.version.Version.{Version}
use Rattle.semver_base.specs.ByteLaws.{MadeOf, joined_made, joined_some_text, prefixed_made}
use Rattle.semver_base.specs.SolidLaws.{EndsSolid, StartsSolid, ends_after, ends_solid, is_solid_byte, number_made, qualifier_made, some_text, starts_before, starts_solid}
use Rattle.semver_base.specs.TokenLaws.{loose_some}
use Rattle.semver_req.specs.Viable.{IsTextOf, IsVersionText, IsViablePrefix}
use Rattle.semver_req.specs.declared.error_places.Grammar.{Grammar}
use Rattle.semver_req.specs.declared.error_places.Grammar.TheVariants.{Ranges, Versions}
use Rattle.semver_req.proofs.Endings.{ascii_text, is_ascii, version_begun, version_ended, version_endings, viable_by}
use Rattle.semver_req.proofs.GrammarTexts.{IsCore, IsSurrounded}
use Rattle.semver_req.proofs.RuleTexts.{Any, EndsBy}
use Rattle.semver_req.proofs.ViableParts.{empty_part, starts_text}
use Rattle.semver_req.proofs.Trimmed.{around, trim_within}
use Rattle.semver_req.proofs.GrammarParts.{no_whitespace}

-- ---- the text of a version without whitespace in front

triple_made : MadeOf IsTriple is_solid_byte
triple_made = joined_made number_made (prefixed_made (joined_made number_made (prefixed_made number_made 46 refl)) 46 refl)

core_solid : (text : List ℕ) (n : (ℕ × (ℕ × ℕ)) × Qualifier) → IsCore text n → list_all is_solid_byte text ≡ true
core_solid text n h = (joined_made triple_made qualifier_made).made text n h

core_some : (text : List ℕ) (n : (ℕ × (ℕ × ℕ)) × Qualifier) → IsCore text n → 0 < length text
core_some text n h = some_text (joined_some_text (joined_some_text loose_some)) text h

-- whitespace, and the version behind it
record IsBare (text : List ℕ) (v : Version) : Type 0 where
  white : List ℕ
  bare : List ℕ
  text_is : text ≡ white ++ bare
  is_white : IsWhitespace white tt
  starts : StartsSolid bare
  ends : EndsSolid bare
  version : IsVersion bare v

-- a version of this lead and these numbers
led : (lead core : List ℕ) (n : (ℕ × (ℕ × ℕ)) × Qualifier) → IsLead lead tt → IsCore core n → IsVersion (lead ++ core) (version_of n)
led lead core n h k = record { value = n; stands = record { value = (tt, n); stands = record { first = lead; second = core; text_is = refl; in_first = h; in_second = k; seam = tt }; is = refl }; is = refl }

lead_of : (e w v : List ℕ) (o p : Option (Unit {0})) → Optional (IsByte 61) e o → IsWhitespace w tt → Optional (Prefixed 118 IsWhitespace) v p → IsLead (e ++ (w ++ v)) tt
lead_of e w v o p h k l = record {
  value = p;
  stands = record {
    value = (o, p);
    stands = record { first = e; second = w ++ v; text_is = refl; in_first = h; in_second = record { value = (tt, p); stands = record { first = w; second = v; text_is = refl; in_first = k; in_second = l; seam = tt }; is = refl }; seam = tt };
    is = refl;
  };
  is = refl;
}

bared : (e w v core : List ℕ) (o p : Option (Unit {0})) (n : (ℕ × (ℕ × ℕ)) × Qualifier) → Optional (IsByte 61) e o → IsWhitespace w tt → Optional (Prefixed 118 IsWhitespace) v p → IsCore core n → IsBare ((e ++ (w ++ v)) ++ core) (version_of n)
bared e w v core (Some o) p n h k l c = record {
  white = [];
  bare = (e ++ (w ++ v)) ++ core;
  text_is = refl;
  is_white = no_whitespace;
  starts = starts_before (e ++ (w ++ v)) core (starts_before e (w ++ v) (record { first = 61; rest = []; text_is = h; solid = refl }));
  ends = ends_after (e ++ (w ++ v)) core (ends_solid core (core_some core n c) (core_solid core n c));
  version = led (e ++ (w ++ v)) core n (lead_of e w v (Some o) p h k l) c;
}
bared e w [] core None (Some p) n h k l c = absurd l
bared e w (x ∷ v) core None (Some p) n h k l c = record {
  white = w;
  bare = (x ∷ v) ++ core;
  text_is = rw h (append_assoc w (x ∷ v) core);
  is_white = k;
  starts = record { first = x; rest = v ++ core; text_is = refl; solid = rw l.0 refl };
  ends = ends_after (x ∷ v) core (ends_solid core (core_some core n c) (core_solid core n c));
  version = led (x ∷ v) core n (lead_of [] [] (x ∷ v) None (Some p) refl no_whitespace l) c;
}
bared e w v core None None n h k l c = record {
  white = w;
  bare = core;
  text_is = rw (h, l, append-nil) refl;
  is_white = k;
  starts = starts_solid core (core_some core n c) (core_solid core n c);
  ends = ends_solid core (core_some core n c) (core_solid core n c);
  version = led [] core n (lead_of [] [] [] None None refl no_whitespace refl) c;
}

bare_of : (text : List ℕ) (v : Version) → IsVersion text v → IsBare text v
bare_of text v h =
    let joined = h.stands.stands in
    let lead = joined.in_first.stands.stands in
    let behind = lead.in_second.stands in
    let named : v ≡ version_of h.stands.value.1 = h.is ∙ ap version_of h.stands.is in
    let whole : text ≡ (lead.first ++ (behind.first ++ behind.second)) ++ joined.second = joined.text_is ∙ ap (λ t. t ++ joined.second) (lead.text_is ∙ ap (λ t. lead.first ++ t) behind.text_is) in
    rw (named, whole) (bared lead.first behind.first behind.second joined.second joined.in_first.stands.value.0 lead.in_second.value.1 h.stands.value.1 lead.in_first behind.in_first behind.in_second joined.in_second)

-- ---- texts of versions, and versions with whitespace around them

surrounded_of : (text : List ℕ) (v : Version) → IsUtf8 text → IsVersionText text v → IsSurrounded text v × AllNumbersFit v
surrounded_of text v u (is_version h fit) =
    let it = around text u in (
      record {
        value = (tt, v);
        stands = record {
          first = it.ahead;
          second = trim text ++ it.behind;
          text_is = it.text_is;
          in_first = it.is_ahead;
          in_second = record { value = (v, tt); stands = record { first = trim text; second = it.behind; text_is = refl; in_first = h; in_second = it.is_behind; seam = tt }; is = refl };
          seam = tt;
        };
        is = refl;
      },
      fit,
    )

version_within : (a core b : List ℕ) (v : Version) → IsUtf8 (a ++ (core ++ b)) → IsWhitespace a tt → IsVersion core v → AllNumbersFit v → IsWhitespace b tt → IsVersionText (a ++ (core ++ b)) v
version_within a core b v u h k fit l =
    let it = bare_of core v k in
    let ahead : IsWhitespace (a ++ it.white) tt = NoCharPasses-append _ a it.white h it.is_white in
    let whole : a ++ (core ++ b) ≡ (a ++ it.white) ++ (it.bare ++ b) = ap (λ t. a ++ (t ++ b)) it.text_is ∙ (ap (λ t. a ++ t) (append_assoc it.white it.bare b) ∙ sym (append_assoc a it.white (it.bare ++ b))) in
    let trimmed : trim (a ++ (core ++ b)) ≡ it.bare = ap trim whole ∙ trim_within (a ++ it.white) it.bare b (rw whole at u) ahead it.starts it.ends l in
    rw trimmed (is_version it.version fit)

text_of : (text : List ℕ) (v : Version) → IsUtf8 text → IsSurrounded text v → AllNumbersFit v → IsVersionText text v
text_of text v u h fit =
    let inner = h.stands.in_second.stands in
    let named : v ≡ h.stands.in_second.value.0 = h.is ∙ h.stands.in_second.is in
    let whole : text ≡ h.stands.first ++ (inner.first ++ inner.second) = h.stands.text_is ∙ ap (λ t. h.stands.first ++ t) inner.text_is in
    let within = version_within h.stands.first inner.first inner.second h.stands.in_second.value.0 (rw whole at u) h.stands.in_first inner.in_first (subst AllNumbersFit named fit) inner.in_second in
    subst (IsVersionText text) (sym named) (subst (λ t. IsVersionText t h.stands.in_second.value.0) (sym whole) within)

-- ---- which prefixes are viable

-- the prefix with this ending is a version's text
abbrev pub IsMadeBy : List ℕ → List ℕ → Type 0
IsMadeBy prefix ending = (v : Version) × IsVersionText (prefix ++ ending) v

-- with the endings for versions with whitespace around them the prefix makes versions' texts
endings_made : (prefix : List ℕ) → IsUtf8 prefix → (es : List (List ℕ)) → list_all is_ascii es ≡ true → EndsBy IsSurrounded AllNumbersFit prefix es → EndsBy IsVersionText Any prefix es
endings_made prefix u [] k h = h
endings_made prefix u (e ∷ es) k (inl h) = inl (h.0, text_of (prefix ++ e) h.0 (IsUtf8-append prefix e u (ascii_text e (and_parts (is_ascii e) (list_all is_ascii es) k).0)) h.1 h.2, tt)
endings_made prefix u (e ∷ es) k (inr h) = inr (endings_made prefix u es (and_parts (is_ascii e) (list_all is_ascii es) k).1 h)

some_ending : (prefix : List ℕ) → IsUtf8 prefix → IsViablePrefix IsVersionText prefix → EndsBy IsVersionText Any prefix version_endings
some_ending prefix u v =
    let h = surrounded_of (prefix ++ v.more) v.value (IsUtf8-append prefix v.more u v.is_text) v.stands in
    endings_made prefix u version_endings refl (version_ended prefix v.more (starts_text v.more v.is_text) v.value h.0 h.1)

-- so it isn't viable if none of them does
pub none_made : (prefix : List ℕ) → IsUtf8 prefix → (IsMadeBy prefix (codes "") → ⊥) → (IsMadeBy prefix (codes "1") → ⊥) → (IsMadeBy prefix (codes "1.1") → ⊥) → (IsMadeBy prefix (codes "1.1.1") → ⊥)
    → (IsMadeBy prefix (codes ".1") → ⊥) → (IsMadeBy prefix (codes ".1.1") → ⊥) → IsViablePrefix IsVersionText prefix → ⊥
none_made prefix u none one pair all last rest v = by (some_ending prefix u v)
  where
    by : EndsBy IsVersionText Any prefix version_endings → ⊥
    by (inl h) = none (h.0, h.1)
    by (inr (inl h)) = one (h.0, h.1)
    by (inr (inr (inl h))) = pair (h.0, h.1)
    by (inr (inr (inr (inl h)))) = all (h.0, h.1)
    by (inr (inr (inr (inr (inl h))))) = last (h.0, h.1)
    by (inr (inr (inr (inr (inr (inl h)))))) = rest (h.0, h.1)
    by (inr (inr (inr (inr (inr (inr h)))))) = h

-- what stands in for a missing item of a list of texts
abbrev pub no_item : Bor (List ℕ)
no_item = record { ref_ptr = (0, 0); now = [] }

-- ---- the empty prefix of each grammar

pub empty_viable : (g : Grammar) → IsViablePrefix (IsTextOf g) []
empty_viable (Ranges f sizes) = empty_part f sizes
empty_viable Versions = viable_by IsVersionText Any IsVersionText (λ t v h i. h) [] version_endings refl (endings_made [] IsUtf8-nil version_endings refl version_begun)
