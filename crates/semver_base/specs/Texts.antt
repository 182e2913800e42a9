-- Short texts that are stored inline, lists whose copies share their items, and what replacing means.
use Rattle.std.specs.Prelude.{◌≡◌, ℕ, List, [], ◌∷◌, ◌++◌, ◌<◌, ◌≤◌, ◌==◌, length, take, drop, slice_get, string_bytes, encode_utf8, Some, None, take_while, chars}
use Rattle.std.specs.Str.Pattern.{FindsText}
use Rattle.std.specs.declared.borrow.CowStr.{CowStr}
use Rattle.std.specs.declared.borrow.CowStr.TheVariants as cow
use Rattle.semver_base.specs.Characters.{zero_digit}
use Rattle.semver_base.specs.declared.string.Storage.{Storage}
use Rattle.semver_base.specs.declared.string.Storage.TheVariants as storage
use Rattle.semver_base.specs.declared.string.list.Items.{Items}
use Rattle.semver_base.specs.declared.string.list.Items.TheVariants as items

-- the bytes of a text, however it is stored
abbrev pub storage_bytes : {limit : ℕ} → Storage limit → List ℕ
storage_bytes (storage.Inline s) = s.bytes
storage_bytes (storage.Heap s zeros) = string_bytes s

-- how many zeros the text begins with
abbrev pub zeros_in_front : List ℕ → ℕ
zeros_in_front bytes = length (take_while (λ b. b == zero_digit) bytes)

-- only a text of more than limit bytes is stored in a `String`, with its number of leading zeros
abbrev pub IsStored : {limit : ℕ} → Storage limit → Type 0
IsStored (storage.Inline s) = Unit {0}
IsStored {limit} (storage.Heap s zeros) = (limit < length (string_bytes s)) × (zeros ≡ zeros_in_front (string_bytes s))

-- no item, one, two, or those of a `Vec`
abbrev pub items_of : {T : Type 0} → Items T → List T
items_of items.None = []
items_of (items.One one) = one.item.value ∷ []
items_of (items.Two two) = two.items.value
items_of (items.Many many) = many.value.items

-- a list with a shared pointer isn't empty
abbrev pub IsFilledIfShared : {T : Type 0} → Items T → Type 0
IsFilledIfShared items.None = Unit {0}
IsFilledIfShared (items.One one) = Unit {0}
IsFilledIfShared (items.Two two) = 0 < length two.items.value
IsFilledIfShared (items.Many many) = 0 < length many.value.items

-- taking the text over needs no allocation: it is owned, or has at most limit bytes
abbrev pub FitsOrIsOwned : {Z : Type 0} → ℕ → CowStr Z → Type 0
FitsOrIsOwned limit (cow.Borrowed text) = length text.now ≤ limit
FitsOrIsOwned limit (cow.Owned text) = Unit {0}

abbrev pub IsFirstCharacter : ℕ → List ℕ → Type 0
IsFirstCharacter c text = slice_get (chars text) 0 ≡ Some c

-- text with each leftmost, non-overlapping from replaced by to; an empty from matches before each character and at the end
pub data IsReplaced (from to : List ℕ) : List ℕ → List ℕ → Type 0 where
  no_more : {text : List ℕ} → FindsText from text None → IsReplaced from to text text
  one_more : {text replaced : List ℕ} {start end : ℕ} → FindsText from text (Some (start, end)) → 0 < length from
      → IsReplaced from to (drop end text) replaced → IsReplaced from to text (take start text ++ (to ++ replaced))
  before_character : {text rest replaced : List ℕ} (c : ℕ) → length from ≡ 0 → IsFirstCharacter c text
      → text ≡ encode_utf8 c ++ rest
      → IsReplaced from to rest replaced → IsReplaced from to text (to ++ (encode_utf8 c ++ replaced))
  at_end : length from ≡ 0 → IsReplaced from to [] to
