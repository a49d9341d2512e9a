-- Lengths of texts, and texts one piece longer. Assumes nothing.
use Prim.Native.Nat.{ℕ, zero, suc, ◌+◌, ◌-◌, ◌/◌, ◌%◌, ◌^◌, ◌≤◌, ◌<◌}
use mathlib.Core.Bool.{Bool, true, false, ◌&&◌}
use mathlib.Core.Path.{◌≡◌, refl, ap, sym}
use mathlib.Core.List.{List, [], ◌∷◌, ◌++◌, append-nil, append_assoc}
use native.Mathlib.Omega.{arith}
use native.Mathlib.Numerals.{add-one}
use native.Mathlib.Nat.{pow-succ'}
use borrow.Author.Tests.{lt-ltb, le-ltb}
use borrow.Author.Count.{below_more}
use lib.Dec.{T, ltb, eqb, eqb→eq}
use lib.ListN.{length, take, drop, get_or, set, length-append}
use lib.Seq.{take-suc, drop_at, set_split, append_snoc, length-take-le}
use lib.Ieee.{Float, Format, nan, to_bits}
use lib.Ieee.Fits.{and_l, and_r}
use Rattle.sheet_encoding.specs.Text.{glyph, hex_digits, or_none, decimal_in, decimal, number_text, field, numbers_text}
use Rattle.sheet_encoding.specs.Kernels.{Wrote}
use Rattle.sheet_encoding.proofs.WroteLaws.{wrote_more}

-- ---- hexadecimal digits

pub length-hex_digits : (k n : ℕ) → length (hex_digits k n) ≡ k
unfolding hex_digits
length-hex_digits zero n = refl
length-hex_digits (suc k) n = simp (length-append, length-hex_digits k (n / 16)) (omega arith)

-- the digits in order
abbrev pub digits : List ℕ
digits = 48 ∷ 49 ∷ 50 ∷ 51 ∷ 52 ∷ 53 ∷ 54 ∷ 55 ∷ 56 ∷ 57 ∷ 97 ∷ 98 ∷ 99 ∷ 100 ∷ 101 ∷ 102 ∷ []

-- each stands at its place: a test that is computed
right : ℕ → Bool
right d = eqb (get_or digits d 0) (glyph d)

every : ℕ → Bool
every zero = true
every (suc k) = right k && every k

under : (k : ℕ) → T (every k) → (d : ℕ) → d < k → T (right d)
unfolding every
under zero h d l = absurd (omega arith)
under (suc k) h d l = below_more (λ (d : ℕ). T (right d)) k (under k (and_r (right k) (every k) h)) (and_l (right k) (every k) h) d (omega arith)

pub digit_at : (d : ℕ) → d < 16 → get_or digits d 0 ≡ glyph d
unfolding right every
digit_at d l = eqb→eq (get_or digits d 0) (glyph d) (under 16 tt d l)

-- the places from k on stand; the digit before them is one more
pub hex_step : (k n : ℕ) (p : List ℕ) → 0 < k → k ≤ length p → hex_digits (k - 1) (n / 16) ++ drop (k - 1) (set p (k - 1) (glyph (n % 16))) ≡ hex_digits k n ++ drop k p
unfolding hex_digits
hex_step zero n p h l = absurd (omega arith)
hex_step (suc k) n p h l =
    let e : suc k - 1 ≡ k = omega arith in
    rw (e, set_split p k (glyph (n % 16)) l, drop_at (take k p) (glyph (n % 16) ∷ drop (suc k) p) k (length-take-le k p (omega arith)), append_snoc (hex_digits k (n / 16)) (glyph (n % 16)) (drop (suc k) p))

-- ---- decimal digits

-- the bound on the number of digits does not matter where it is large enough
decimal_in_same : (k n : ℕ) → n < 10 ^ suc k → decimal_in k n ≡ decimal_in (suc k) n
unfolding decimal_in
decimal_in_same zero n h = rw (lt-ltb n 10 h)
decimal_in_same (suc k) n h = ap (λ (t : List ℕ). or_none (ltb n 10) t ++ (glyph (n % 10) ∷ [])) (decimal_in_same k (n / 10) (omega (arith, pow-succ' 10 (suc k))))

pub decimal_one : (n : ℕ) → n < 10 → decimal n ≡ glyph n ∷ []
unfolding decimal decimal_in
decimal_one n h = let e : n % 10 ≡ n = omega arith in rw (e, lt-ltb n 10 h)

decimal_more : (n : ℕ) → n < 10 ^ 20 → 10 ≤ n → decimal n ≡ decimal (n / 10) ++ (glyph (n % 10) ∷ [])
unfolding decimal decimal_in
decimal_more n h l = rw (le-ltb n 10 l) (ap (λ (t : List ℕ). t ++ (glyph (n % 10) ∷ [])) (decimal_in_same 18 (n / 10) (omega arith)))

pub length_decimal_more : (n : ℕ) → n < 10 ^ 20 → 10 ≤ n → length (decimal n) ≡ length (decimal (n / 10)) + 1
length_decimal_more n h l = rw (decimal_more n h l, length-append)

pub decimal_step : (n : ℕ) {o : List ℕ} {a : ℕ} {o' : List ℕ} {a' : ℕ} {o'' : List ℕ} {a'' : ℕ} → n < 10 ^ 20 → 10 ≤ n
    → Wrote o a (decimal (n / 10)) o' a' → Wrote o' a' (glyph (n % 10) ∷ []) o'' a'' → Wrote o a (decimal n) o'' a''
decimal_step n h l w v = rw (decimal_more n h l) (wrote_more w v)

length-or_none : (b : Bool) (t : List ℕ) → length (or_none b t) ≤ length t
length-or_none true t = omega arith
length-or_none false t = omega arith

length-decimal_in : (k n : ℕ) → length (decimal_in k n) ≤ suc k
unfolding decimal_in
length-decimal_in zero n = omega arith
length-decimal_in (suc k) n = rw length-append (omega (arith, length-or_none (ltb n 10) (decimal_in k (n / 10)), length-decimal_in k (n / 10)))

-- a number takes at most 20 digits
pub length-decimal : (n : ℕ) → length (decimal n) ≤ 20
unfolding decimal
length-decimal n = length-decimal_in 19 n

few_digits : (k j n : ℕ) → n < 10 ^ suc k → length (decimal_in j n) ≤ suc k
unfolding decimal_in
few_digits k zero n h = omega arith
few_digits zero (suc j) n h = rw (lt-ltb n 10 h) (omega arith)
few_digits (suc k) (suc j) n h = rw length-append (omega (arith, length-or_none (ltb n 10) (decimal_in j (n / 10)), few_digits k j (n / 10) (omega (arith, pow-succ' 10 (suc k)))))

-- and one below 10 ^ (k + 1) at most k + 1
pub length_decimal_few : (k n : ℕ) → n < 10 ^ suc k → length (decimal n) ≤ suc k
unfolding decimal
length_decimal_few k n h = few_digits k 19 n h

-- ---- numbers

pub length-number_text : (f : Format) (x : Float) → length (number_text f x) ≡ 16
unfolding number_text
length-number_text f x = length-hex_digits 16 (to_bits f x)

pub numbers_text_none : (f : Format) → numbers_text f [] ≡ []
unfolding numbers_text
numbers_text_none f = refl

-- the numbers of one list after those of another
pub numbers_text_append : (f : Format) (l m : List Float) → numbers_text f (l ++ m) ≡ numbers_text f l ++ numbers_text f m
unfolding numbers_text
numbers_text_append f [] m = refl
numbers_text_append f (y ∷ ys) m = rw (numbers_text_append f ys m) (sym (append_assoc (field (number_text f y)) (numbers_text f ys) (numbers_text f m)))

pub numbers_text_one : (f : Format) (x : Float) → numbers_text f (x ∷ []) ≡ field (number_text f x)
unfolding numbers_text
numbers_text_one f x = append-nil (field (number_text f x))

-- one number more of the list
pub numbers_text_more : (f : Format) (l : List Float) (i : ℕ) → i < length l → numbers_text f (take (i + 1) l) ≡ numbers_text f (take i l) ++ field (number_text f (get_or l i nan))
numbers_text_more f l i h = rw (add-one i, take-suc l i nan, numbers_text_append f (take i l) (get_or l i nan ∷ []), numbers_text_one f (get_or l i nan))
