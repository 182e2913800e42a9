-- Each parser parses `*` to any version.
use Rattle.std.proofs.Common.{[], ◌∷◌, List, None, refl, sym, codes}
use Rattle.semver_base.specs.Comparators.{Bare}
use Rattle.semver_base.specs.Grammar.{IsLongest, that}
use Rattle.semver_base.specs.Meaning.{everything}
use Rattle.semver_base.specs.NormalText.{AreWritableRanges}
use Rattle.semver_base.specs.Shortest.{shortest_tree}
use Rattle.semver_base.specs.declared.partial.Partial.{Partial}
use Rattle.semver_base.specs.declared.partial.XRange.TheVariants.{Wildcard}
use Rattle.semver_base.specs.declared.range.VersionRange.{VersionRange}
use Rattle.semver_base.specs.ValueLaws.{in_place}
use Rattle.semver_req.specs.Outcome.{IsSpecifierRange, Ranges, whole}
use Rattle.semver_req.specs.Parsers.{IsCutReading}
use Rattle.semver_req.specs.Pieces.{IsCutting, npm, normal}
use Rattle.semver_req.specs.Rereading.{StarIsAnyVersion}
use Rattle.semver_req.specs.declared.common.values.Flavour.{Flavour}
use Rattle.semver_req.specs.declared.range_set_or_tag.RangeSetOrTag.TheVariants as inner
use Rattle.semver_req.specs.declared.common.values.Flavour.TheVariants.{Npm, Normal, Specifier}
use Rattle.semver_req.proofs.ComparatorReadings.{comparator_one}
use Rattle.semver_req.proofs.GrammarFacts.{listing}
use Rattle.semver_req.proofs.WrittenSets.{cut_outcome, set_outcome, set_trimmed}

-- ---- in npm's and the normalized grammar it is the canonical form of everything

abbrev any_set : List VersionRange
any_set = everything ∷ []

writable : AreWritableRanges any_set
writable = (record { start = tt; end = tt }, tt)

-- ---- in the strict grammar

abbrev any_partial : Partial
any_partial = record { major = Wildcard; minor = Wildcard; patch = Wildcard; pre = []; build = [] }

star_read : IsSpecifierRange (codes "*") (Bare any_partial)
star_read = that (record {
  value = any_partial;
  stands = record {
    value = (Wildcard, None);
    stands = record { first = codes "*"; second = []; text_is = refl; in_first = (42, record { text_is = refl; passes = refl }); in_second = refl; seam = tt };
    is = refl;
  };
  is = refl;
})

star_longest : IsLongest IsSpecifierRange (codes "*") (Bare any_partial) []
star_longest = in_place (comparator_one Specifier) (listing Specifier).item_goes (codes "*") [] star_read tt

pub star_alternatives : (f : Flavour) → IsCutting f → IsCutReading f (codes "*") (inner.RangeSet (record { 0 = any_set }))
star_alternatives f npm = record { outcome = Ranges (shortest_tree any_set); is_outcome = cut_outcome Npm npm any_set writable; is_read = refl }
star_alternatives f normal = record { outcome = Ranges (shortest_tree any_set); is_outcome = cut_outcome Normal normal any_set writable; is_read = refl }

pub star_any : StarIsAnyVersion
star_any Npm = record {
  reading = record { outcome = Ranges (shortest_tree any_set); is_outcome = set_outcome Npm npm any_set writable; is_read = refl };
  raw_text = sym (set_trimmed any_set writable);
}
star_any Normal = record { reading = record { outcome = Ranges (shortest_tree any_set); is_outcome = set_outcome Normal normal any_set writable; is_read = refl }; raw_text = refl }
star_any Specifier = record { reading = record { outcome = Ranges ((Bare any_partial ∷ []) ∷ []); is_outcome = whole star_longest refl; is_read = refl }; raw_text = refl }
