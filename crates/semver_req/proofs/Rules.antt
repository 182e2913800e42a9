-- Grammars as values: rules, the texts of a rule, and what can be computed of it. The derivatives are Antimirov's.
use Rattle.std.proofs.Common.{◌≡◌, ℕ, suc, Bool, true, false, ◌&&◌, ◌||◌, List, [], ◌∷◌, ◌++◌, ◌⊎◌, leb, ltb, eqb, min, max}

-- ---- sets of bytes

-- the bytes of several ranges, each given by its first byte and the one after its last
abbrev pub Bytes : Type 0
Bytes = List (ℕ × ℕ)

abbrev pub has : Bytes → ℕ → Bool
has [] x = false
has (r ∷ rs) x = (leb r.0 x && ltb x r.1) || has rs x

-- the bytes of a set that aren't in a range, and those that aren't in another set
abbrev pub take_out : ℕ × ℕ → Bytes → Bytes
take_out r [] = []
take_out r (q ∷ qs) = (q.0, min q.1 r.0) ∷ ((max q.0 r.1, q.1) ∷ take_out r qs)

abbrev pub minus : Bytes → Bytes → Bytes
minus p [] = p
minus p (r ∷ rs) = minus (take_out r p) rs

-- some byte may be in both
abbrev pub meets : Bytes → ℕ × ℕ → Bool
meets [] q = false
meets (r ∷ rs) q = (ltb q.0 r.1 && ltb r.0 q.1) || meets rs q

abbrev pub overlap : Bytes → Bytes → Bool
overlap s [] = false
overlap s (q ∷ qs) = meets s q || overlap s qs

-- the set is empty
abbrev pub is_void : Bytes → Bool
is_void [] = true
is_void (r ∷ rs) = leb r.1 r.0 && is_void rs

-- ---- rules

pub data Rule : Type 0 where
  -- the empty text
  empty : Rule
  -- one byte of the set
  byte : Bytes → Rule
  -- a text of the first, and then one of the second
  seq : Rule → Rule → Rule
  -- a text of the first or of the second
  alt : Rule → Rule → Rule
  -- any number of texts, or none
  many : Rule → Rule
  -- the texts that don't begin with a byte of the set
  unless : Bytes → Rule → Rule

-- ---- the texts of a rule

pub data Many (R : List ℕ → Type 0) : List ℕ → Type 0 where
  no_more : {t : List ℕ} → t ≡ [] → Many R t
  one_more : {t : List ℕ} (a b : List ℕ) → t ≡ a ++ b → R a → Many R b → Many R t

-- the first byte, if any, isn't in the set
abbrev pub Avoids : Bytes → List ℕ → Type 0
Avoids s [] = Unit {0}
Avoids s (x ∷ t) = has s x ≡ false

abbrev pub Holds : Rule → List ℕ → Type 0
Holds empty t = t ≡ []
Holds (byte s) t = (x : ℕ) × (t ≡ x ∷ []) × (has s x ≡ true)
Holds (seq a b) t = (x : List ℕ) × (y : List ℕ) × (t ≡ x ++ y) × Holds a x × Holds b y
Holds (alt a b) t = Holds a t ⊎ Holds b t
Holds (many a) t = Many (Holds a) t
Holds (unless s a) t = Avoids s t × Holds a t

-- ---- what is computed

-- the empty text is one of its texts
abbrev pub nullable : Rule → Bool
nullable empty = true
nullable (byte s) = false
nullable (seq a b) = nullable a && nullable b
nullable (alt a b) = nullable a || nullable b
nullable (many a) = true
nullable (unless s a) = nullable a

-- the bytes with which texts begin, each set with the rule of what follows: the linear form of a rule
abbrev pub Steps : Type 0
Steps = List (Bytes × Rule)

abbrev pub join : Rule → Rule → Rule
join empty b = b
join a b = seq a b

abbrev pub behind : Rule → Steps → Steps
behind b [] = []
behind b (p ∷ l) = (p.0, join p.1 b) ∷ behind b l

abbrev pub without : Bytes → Steps → Steps
without s [] = []
without s (p ∷ l) = (minus p.0 s, p.1) ∷ without s l

abbrev pub only : Bool → Steps → Steps
only true l = l
only false l = []

abbrev pub steps : Rule → Steps
steps empty = []
steps (byte s) = (s, empty) ∷ []
steps (seq a b) = behind b (steps a) ++ only (nullable a) (steps b)
steps (alt a b) = steps a ++ steps b
steps (many a) = behind (many a) (steps a)
steps (unless s a) = without s (steps a)

-- one of the steps takes the byte, and the text is one of what follows it
abbrev pub Goes : Steps → ℕ → List ℕ → Type 0
Goes [] x t = ⊥
Goes (p ∷ l) x t = ((has p.0 x ≡ true) × Holds p.1 t) ⊎ Goes l x t

-- the first set
abbrev pub firsts : Steps → Bytes
firsts [] = []
firsts (p ∷ l) = p.0 ++ firsts l

-- all bytes of its texts
abbrev pub all_bytes : Rule → Bytes
all_bytes empty = []
all_bytes (byte s) = s
all_bytes (seq a b) = all_bytes a ++ all_bytes b
all_bytes (alt a b) = all_bytes a ++ all_bytes b
all_bytes (many a) = all_bytes a
all_bytes (unless s a) = all_bytes a

abbrev pub is_made : Rule → Bytes → Bool
is_made a s = is_void (minus (all_bytes a) s)

-- ---- equal rules

abbrev pub same_bytes : Bytes → Bytes → Bool
same_bytes [] [] = true
same_bytes (r ∷ rs) (q ∷ qs) = eqb r.0 q.0 && (eqb r.1 q.1 && same_bytes rs qs)
same_bytes _ _ = false

abbrev pub same_rule : Rule → Rule → Bool
same_rule empty empty = true
same_rule (byte s) (byte t) = same_bytes s t
same_rule (seq a b) (seq c d) = same_rule a c && same_rule b d
same_rule (alt a b) (alt c d) = same_rule a c && same_rule b d
same_rule (many a) (many b) = same_rule a b
same_rule (unless s a) (unless t b) = same_bytes s t && same_rule a b
same_rule _ _ = false

-- ---- short forms

abbrev pub letter : ℕ → Rule
letter m = byte ((m, suc m) ∷ [])

abbrev pub word : List ℕ → Rule
word [] = empty
word (m ∷ []) = letter m
word (m ∷ n ∷ rest) = seq (letter m) (word (n ∷ rest))

abbrev pub optional : Rule → Rule
optional a = alt a empty

abbrev pub some : Rule → Rule
some a = seq a (many a)

-- with separators between neighbours, and at most one at the end
abbrev pub listed : Rule → Rule → Rule
listed a s = seq a (seq (many (seq s a)) (optional s))
