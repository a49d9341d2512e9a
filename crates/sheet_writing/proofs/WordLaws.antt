-- Numbers as bytes and back. Assumes nothing.
use Prim.Native.Nat.{ℕ, zero, suc, ◌+◌, ◌*◌, ◌/◌, ◌%◌, ◌^◌, ◌<◌}
use native.Mathlib.Omega.{arith}
use native.Mathlib.Numerals.{add-one}
use native.Mathlib.Nat.{mod-lt, mod-add-div, pow-suc, pow-succ', div-div-eq-div-mul}
use mathlib.Core.Path.{◌≡◌, refl, sym, ap, ◌∙◌}
use mathlib.Core.List.{List, [], ◌∷◌, ◌++◌, append_assoc, append-nil}
use lib.ListN.{length, get_or, take, length-append}
use lib.Seq.{get_or_at, append_snoc, take-suc}
use Rattle.std.specs.Int.{w64, to_le_bytes, bytes_low_first}
use Rattle.std.specs.Int.{byte_at as low_byte}
use Rattle.sheet_encoding.specs.Bytes.{byte_at, word_at}
use Rattle.sheet_writing.specs.Sections.{word_bytes, number_bytes, bytes_at, words_at}
use Rattle.sheet_writing.specs.Written.{Below}

-- ---- the bytes that std gives

bytes_low : (i k v : ℕ) → bytes_low_first i k v ≡ word_bytes k (v / 256 ^ i)
unfolding word_bytes
bytes_low i zero v = refl
bytes_low i (suc k) v =
    let more : v / 256 ^ suc i ≡ v / 256 ^ i / 256 = rw (div-div-eq-div-mul v (256 ^ i) 256, pow-suc 256 i) in
    rw (byte_low i v, bytes_low (suc i) k v, more)
  where
    byte_low : (i v : ℕ) → low_byte i v ≡ v / 256 ^ i % 256
    byte_low zero v = let one : v / 1 ≡ v = omega arith in rw one
    byte_low (suc i) v = refl

pub le_bytes : (v : ℕ) → to_le_bytes w64 v ≡ word_bytes 8 v
le_bytes v = let one : v / 1 ≡ v = omega arith in rw one at (bytes_low 0 8 v)

-- ---- one number more

pub number_bytes_none : number_bytes [] ≡ []
unfolding number_bytes
number_bytes_none = refl

number_bytes_append : (l m : List ℕ) → number_bytes (l ++ m) ≡ number_bytes l ++ number_bytes m
unfolding number_bytes
number_bytes_append [] m = refl
number_bytes_append (v ∷ l) m = rw (number_bytes_append l m) (sym (append_assoc (word_bytes 8 v) (number_bytes l) (number_bytes m)))

number_bytes_one : (v : ℕ) → number_bytes (v ∷ []) ≡ word_bytes 8 v
unfolding number_bytes
number_bytes_one v = append-nil (word_bytes 8 v)

pub number_bytes_more : (l : List ℕ) (i : ℕ) → i < length l → number_bytes (take (i + 1) l) ≡ number_bytes (take i l) ++ word_bytes 8 (get_or l i 0)
number_bytes_more l i h = rw (add-one i, take-suc l i 0, number_bytes_append (take i l) (get_or l i 0 ∷ []), number_bytes_one (get_or l i 0))

-- ---- lengths

pub length-word_bytes : (k v : ℕ) → length (word_bytes k v) ≡ k
unfolding word_bytes
length-word_bytes zero v = refl
length-word_bytes (suc k) v = ap suc (length-word_bytes k (v / 256))

pub length-number_bytes : (l : List ℕ) → length (number_bytes l) ≡ 8 * length l
unfolding number_bytes
length-number_bytes [] = omega arith
length-number_bytes (v ∷ l) = rw length-append (omega (arith, length-word_bytes 8 v, length-number_bytes l))

-- ---- what is written is read

high_lt : (v k : ℕ) → v < 256 ^ suc k → v / 256 < 256 ^ k
high_lt v k h = omega (arith, h, pow-succ' 256 k, mod-add-div v 256)

pub longer : (pre : List ℕ) (x p : ℕ) → length pre ≡ p → length (pre ++ (x ∷ [])) ≡ p + 1
longer pre x p h = rw length-append (omega arith)

pub word_back : (k v : ℕ) (pre post : List ℕ) (p : ℕ) → v < 256 ^ k → length pre ≡ p → word_at k (pre ++ (word_bytes k v ++ post)) p ≡ v
unfolding word_at word_bytes
word_back zero v pre post p h l = omega (arith, h)
word_back (suc k) v pre post p h l =
    let w : List ℕ = word_bytes k (v / 256) ++ post in
    let s : List ℕ = pre ++ (v % 256 ∷ w) in
    let low : byte_at s p ≡ v % 256 = get_or_at pre (v % 256) w 0 p l in
    let high : word_at k s (p + 1) ≡ v / 256 =
    ap (λ (z : List ℕ). word_at k z (p + 1)) (sym (append_snoc pre (v % 256) w)) ∙ word_back k (v / 256) (pre ++ (v % 256 ∷ [])) post (p + 1) (high_lt v k h) (longer pre (v % 256) p l) in
    omega (arith, low, high, mod-add-div v 256)

pub words_back : (l pre post : List ℕ) (p : ℕ) → Below (256 ^ 8) l → length pre ≡ p → words_at (pre ++ (number_bytes l ++ post)) p (length l) ≡ l
unfolding words_at number_bytes
words_back [] pre post p b h = refl
words_back (v ∷ l) pre post p b h =
    let w : List ℕ = word_bytes 8 v in
    let r : List ℕ = number_bytes l ++ post in
    let e : pre ++ (w ++ number_bytes l ++ post) ≡ pre ++ (w ++ r) = ap (λ (z : List ℕ). pre ++ z) (append_assoc w (number_bytes l) post) in
    let g : pre ++ (w ++ r) ≡ (pre ++ w) ++ r = sym (append_assoc pre w r) in
    let long : length (pre ++ w) ≡ p + 8 = rw length-append (omega (arith, length-word_bytes 8 v)) in
    let x : word_at 8 (pre ++ (w ++ number_bytes l ++ post)) p ≡ v = ap (λ (z : List ℕ). word_at 8 z p) e ∙ word_back 8 v pre r p (b 0) h in
    let y : words_at (pre ++ (w ++ number_bytes l ++ post)) (p + 8) (length l) ≡ l = ap (λ (z : List ℕ). words_at z (p + 8) (length l)) (e ∙ g) ∙ words_back l (pre ++ w) post (p + 8) (λ i. b (suc i)) long in
    ap (λ (z : ℕ). z ∷ words_at (pre ++ (w ++ number_bytes l ++ post)) (p + 8) (length l)) x ∙ ap (λ (z : List ℕ). v ∷ z) y

pub bytes_back : (ts pre : List ℕ) (p : ℕ) → length pre ≡ p → bytes_at (pre ++ ts) p (length ts) ≡ ts
unfolding bytes_at
bytes_back [] pre p h = refl
bytes_back (t ∷ ts) pre p h =
    ap (λ (z : ℕ). z ∷ bytes_at (pre ++ t ∷ ts) (p + 1) (length ts)) (get_or_at pre t ts 0 p h)
    ∙ ap (λ (z : List ℕ). t ∷ z) (ap (λ (z : List ℕ). bytes_at z (p + 1) (length ts)) (sym (append_snoc pre t ts)) ∙ bytes_back ts (pre ++ (t ∷ [])) (p + 1) (longer pre t p h))

-- ---- what is read is written

low_part : (b w : ℕ) → b < 256 → (b + 256 * w) % 256 ≡ b
low_part b w h = omega (arith, mod-add-div (b + 256 * w) 256, mod-lt (b + 256 * w) {m = 256} (omega arith))

high_part : (b w : ℕ) → b < 256 → (b + 256 * w) / 256 ≡ w
high_part b w h = omega (arith, mod-add-div (b + 256 * w) 256, mod-lt (b + 256 * w) {m = 256} (omega arith))

pub word_bytes_lem : (k : ℕ) (s : List ℕ) (p : ℕ) → Below 256 s → word_bytes k (word_at k s p) ≡ bytes_at s p k
unfolding word_bytes word_at bytes_at
word_bytes_lem zero s p b = refl
word_bytes_lem (suc k) s p b = rw (low_part (byte_at s p) (word_at k s (p + 1)) (b p), high_part (byte_at s p) (word_at k s (p + 1)) (b p)) (ap (λ (z : List ℕ). byte_at s p ∷ z) (word_bytes_lem k s (p + 1) b))

pub bytes_more : (s : List ℕ) (p k m : ℕ) → bytes_at s p k ++ bytes_at s (p + k) m ≡ bytes_at s p (k + m)
unfolding bytes_at
bytes_more s p zero m = let z : p + 0 ≡ p = omega arith in let y : 0 + m ≡ m = omega arith in rw (z, y)
bytes_more s p (suc k) m =
    let z : p + suc k ≡ p + 1 + k = omega arith in
    let y : suc k + m ≡ suc (k + m) = omega arith in
    rw (z, y) (ap (λ (l : List ℕ). byte_at s p ∷ l) (bytes_more s (p + 1) k m))

pub number_bytes_lem : (s : List ℕ) (p k : ℕ) → Below 256 s → number_bytes (words_at s p k) ≡ bytes_at s p (8 * k)
unfolding number_bytes words_at bytes_at
number_bytes_lem s p zero b = refl
number_bytes_lem s p (suc k) b =
    let z : 8 + 8 * k ≡ 8 * suc k = omega arith in
    ap (λ (l : List ℕ). l ++ number_bytes (words_at s (p + 8) k)) (word_bytes_lem 8 s p b)
    ∙ ap (λ (l : List ℕ). bytes_at s p 8 ++ l) (number_bytes_lem s (p + 8) k b)
    ∙ bytes_more s p 8 (8 * k)
    ∙ ap (bytes_at s p) z

-- all bytes
pub bytes_all : (s : List ℕ) → bytes_at s 0 (length s) ≡ s
bytes_all s = bytes_back s [] 0 refl

pub length-bytes_at : (s : List ℕ) (p k : ℕ) → length (bytes_at s p k) ≡ k
unfolding bytes_at
length-bytes_at s p zero = refl
length-bytes_at s p (suc k) = ap suc (length-bytes_at s (p + 1) k)

pub length-words_at : (s : List ℕ) (p k : ℕ) → length (words_at s p k) ≡ k
unfolding words_at
length-words_at s p zero = refl
length-words_at s p (suc k) = ap suc (length-words_at s (p + 8) k)

pub byte_bytes_at : (s : List ℕ) (p k i : ℕ) → i < k → byte_at (bytes_at s p k) i ≡ byte_at s (p + i)
unfolding bytes_at
byte_bytes_at s p zero i h = absurd (omega arith)
byte_bytes_at s p (suc k) zero h = let z : p + 0 ≡ p = omega arith in rw z
byte_bytes_at s p (suc k) (suc i) h = let z : p + suc i ≡ p + 1 + i = omega arith in rw z (byte_bytes_at s (p + 1) k i (omega arith))
