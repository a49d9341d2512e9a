-- Text written at a cursor, one piece after the other. Assumes nothing.
use Prim.Native.Nat.{ℕ, ◌+◌, ◌≤◌, ◌<◌}
use mathlib.Core.Path.{◌≡◌, refl, ap, sym, ◌∙◌}
use mathlib.Core.List.{List, [], ◌∷◌, ◌++◌, append_assoc}
use native.Mathlib.Omega.{arith}
use native.Mathlib.Numerals.{add-one}
use lib.ListN.{length, take, drop, set, length-append, length-take, length-drop, take-append-drop}
use lib.Seq.{take_at, drop_at, drop-drop, set_split, length-take-le}
use Rattle.sheet_encoding.specs.Kernels.{replaced, Wrote}

-- ---- pieces of text

length-replaced : (w : List ℕ) (a : ℕ) (p : List ℕ) → a + length p ≤ length w → length (replaced w a p) ≡ length w
length-replaced w a p h = simp (length-append, length-take, length-drop) (omega arith)

-- one piece after another
replaced_again : (o : List ℕ) (a : ℕ) (t u : List ℕ) → a + length t + length u ≤ length o → replaced (replaced o a t) (a + length t) u ≡ replaced o a (t ++ u)
replaced_again o a t u h =
    let p : List ℕ = take a o ++ t in
    let r : List ℕ = drop (length t) (drop a o) in
    let e : replaced o a t ≡ p ++ r = sym (append_assoc (take a o) t r) in
    let l : length p ≡ a + length t = simp (length-append, length-take-le a o (omega arith)) in
    rw (e, take_at p r (a + length t) l, drop_at p r (a + length t) l, append_assoc (take a o) t (u ++ drop (length u) r), append_assoc t u (drop (length (t ++ u)) (drop a o)), length-append t u, ← drop-drop (length u) (length t) (drop a o))

pub wrote_none : (o : List ℕ) (a : ℕ) → a ≤ length o → Wrote o a [] o a
wrote_none o a h = record { bytes = sym (take-append-drop a o); past = omega arith; fits = omega arith }

wrote_length : {o : List ℕ} {a : ℕ} {t : List ℕ} {o' : List ℕ} {a' : ℕ} → Wrote o a t o' a' → length o' ≡ length o
wrote_length {o} {a} {t} w = ap length w.bytes ∙ length-replaced o a t w.fits

pub wrote_more : {o : List ℕ} {a : ℕ} {t : List ℕ} {o' : List ℕ} {a' : ℕ} {u o'' : List ℕ} {a'' : ℕ} → Wrote o a t o' a' → Wrote o' a' u o'' a'' → Wrote o a (t ++ u) o'' a''
wrote_more {o} {a} {t} {o'} {a'} {u} {o''} {a''} w v =
    let h : a + length t + length u ≤ length o = omega (arith, v.fits, w.past, wrote_length w) in
    record {
      bytes = v.bytes ∙ rw (w.bytes, w.past) (replaced_again o a t u h);
      past = rw length-append (omega arith);
      fits = rw length-append (omega arith);
    }

-- a single byte
pub wrote_byte : (o : List ℕ) (a b : ℕ) → a < length o → Wrote o a (b ∷ []) (set o a b) (a + 1)
wrote_byte o a b h = record { bytes = set_split o a b h ∙ rw (drop-drop 1 a o, add-one a); past = refl; fits = omega arith }
