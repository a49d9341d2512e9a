-- What is written is read back, and what is read is written back. Assumes nothing.
use Prim.Native.Nat.{ℕ, suc, ◌+◌, ◌*◌, ◌≤◌}
use native.Mathlib.Omega.{arith}
use native.Mathlib.Nat.{mul_assoc, mul_comm}
use mathlib.Core.Path.{◌≡◌, refl, sym, ap, ◌∙◌}
use mathlib.Core.List.{List, [], ◌∷◌, ◌++◌, append_assoc}
use lib.ListN.{length, length-append}
use lib.Seq.{get_or_at, get_or-append-add, append_snoc}
use Rattle.sheet_encoding.specs.Bytes.{byte_at}
use Rattle.sheet_encoding.specs.Parse.{directions_at, exponents_at, tasks_at, sheet_length, TaskIs, SheetIs}
use Rattle.sheet_encoding.proofs.ParseLaws.{is_sheet}
use Rattle.sheet_writing.specs.Sections.{Sections, sections_of, number_bytes, sheet_bytes, bytes_at, words_at, sections}
use Rattle.sheet_writing.specs.Written.{Below, ReadAs}
use Rattle.sheet_writing.specs.Kernels.{Words}
use Rattle.sheet_writing.proofs.QuestionLaws.{Accepted}
use Rattle.sheet_writing.proofs.WordLaws.{length-number_bytes, longer, words_back, bytes_back, bytes_more, number_bytes_lem, bytes_all, length-bytes_at, length-words_at, byte_bytes_at}

-- the bytes of d matrices, counted in either order
swap8 : (d m : ℕ) → d * (8 * m) ≡ 8 * (d * m)
swap8 d m = rw (mul_comm d (8 * m), mul_assoc 8 m d, mul_comm m d)

-- a task is as good in another list that has the same two bytes
task_moved : (s ts : List ℕ) (q j d e : ℕ) → byte_at s q ≡ byte_at ts j → byte_at s (q + 1) ≡ byte_at ts (j + 1) → TaskIs ts j d e → TaskIs s q d e
task_moved s ts q j d e a b t = record { code = rw a t.code; index = rw (a, b) t.index }

-- ---- an accepted sheet is written back

-- a count and the numbers after it are the bytes of its section
section_bytes : (s : List ℕ) (p c k : ℕ) → Below 256 s → byte_at s p ≡ c → c ∷ number_bytes (words_at s (p + 1) k) ≡ bytes_at s p (1 + 8 * k)
unfolding bytes_at
section_bytes s p c k b h = let z : 1 + 8 * k ≡ suc (8 * k) = omega arith in rw (← h, z, number_bytes_lem s (p + 1) k b)

task_bytes : (s : List ℕ) (p t k : ℕ) → byte_at s p ≡ t → t ∷ bytes_at s (p + 1) k ≡ bytes_at s p (1 + k)
unfolding bytes_at
task_bytes s p t k h = let z : 1 + k ≡ suc k = omega arith in rw (← h, z)

-- one part more from the start
part_more : (s a b : List ℕ) (k p m : ℕ) → p ≡ k → a ≡ bytes_at s 0 k → b ≡ bytes_at s p m → a ++ b ≡ bytes_at s 0 (k + m)
part_more s a b k p m q ea eb = let o : 0 + k ≡ k = omega arith in rw (ea, eb, q) (rw o at (bytes_more s 0 k m))

pub bytes_again : (s : List ℕ) (n d e t : ℕ) → Below 256 s → SheetIs s n d e t → sheet_bytes (sections s n d e t) ≡ s
unfolding sheet_bytes sections
bytes_again s n d e t b h =
    let k₁ : ℕ = 1 + 8 * (n * n) in
    let k₂ : ℕ = k₁ + (1 + 8 * (d * (n * n))) in
    let k₃ : ℕ = k₂ + (1 + 8 * e) in
    let q : exponents_at n d ≡ k₂ = omega (arith, swap8 d (n * n)) in
    let one = section_bytes s 0 n (n * n) b h.order_byte in
    let two = part_more s _ _ k₁ (directions_at n) (1 + 8 * (d * (n * n))) refl one (section_bytes s (directions_at n) d (d * (n * n)) b h.directions_byte) in
    let three = part_more s _ _ k₂ (exponents_at n d) (1 + 8 * e) q two (section_bytes s (exponents_at n d) e e b h.exponents_byte) in
    let four = part_more s _ _ k₃ (tasks_at n d e) (1 + 2 * t) (omega (arith, q)) three (task_bytes s (tasks_at n d e) t (2 * t) h.tasks_byte) in
    let l : k₃ + (1 + 2 * t) ≡ length s = omega (arith, q, h.long) in
    four ∙ ap (bytes_at s 0) l ∙ bytes_all s

pub sections_accepted : (s : List ℕ) (n d e t room : ℕ) → SheetIs s n d e t → length s ≤ room → Accepted (sections s n d e t) room
unfolding sections
sections_accepted s n d e t room h l =
    let q : ℕ = tasks_at n d e + 1 in
    let ts : List ℕ = bytes_at s q (2 * t) in
    record {
      room_is = record {
        range = record { least = h.least; most = h.most; directions = h.directions; exponents = h.exponents; some = h.some; count = h.count };
        matrix = length-words_at s 1 (n * n);
        direction = length-words_at s (directions_at n + 1) (d * (n * n));
        exponent = length-words_at s (exponents_at n d + 1) e;
        task = length-bytes_at s q (2 * t);
        output = omega (arith, h.long);
      };
      each = λ i m.
          let z : q + (2 * i + 1) ≡ q + 2 * i + 1 = omega arith in
          task_moved ts s (2 * i) (q + 2 * i) d e (byte_bytes_at s q (2 * t) (2 * i) (omega arith)) (byte_bytes_at s q (2 * t) (2 * i + 1) (omega arith) ∙ ap (byte_at s) z) (h.each i m);
    }

-- ---- what is written is read back

same_sections : (x : Sections) (a d e ts : List ℕ) → a ≡ x.matrix → d ≡ x.direction → e ≡ x.exponent → ts ≡ x.task → sections_of x.order a x.directions d x.exponents e x.tasks ts ≡ x
same_sections x a d e ts p q r s = rw (p, q, r, s)

-- the bytes of a sheet as four parts: before the directions' count, the exponents', the tasks', and after it
module _ (x : Sections) where
  abbrev P₁ : List ℕ
  P₁ = x.order ∷ number_bytes x.matrix

  abbrev P₂ : List ℕ
  P₂ = P₁ ++ (x.directions ∷ number_bytes x.direction)

  abbrev P₃ : List ℕ
  P₃ = P₂ ++ (x.exponents ∷ number_bytes x.exponent)

  abbrev R₂ : List ℕ
  R₂ = x.tasks ∷ x.task

  abbrev R₁ : List ℕ
  R₁ = (x.exponents ∷ number_bytes x.exponent) ++ R₂

  abbrev whole : List ℕ
  whole = P₃ ++ R₂

  whole₂ : whole ≡ P₂ ++ R₁
  whole₂ = append_assoc P₂ (x.exponents ∷ number_bytes x.exponent) R₂

  whole₁ : whole ≡ P₁ ++ ((x.directions ∷ number_bytes x.direction) ++ R₁)
  whole₁ = whole₂ ∙ append_assoc P₁ (x.directions ∷ number_bytes x.direction) R₁

pub read_again : (x : Sections) (room : ℕ) → Words x → Accepted x room → ReadAs (sheet_bytes x) x
unfolding sheet_bytes sections
read_again x room w a =
    let n : ℕ = x.order in
    let d : ℕ = x.directions in
    let e : ℕ = x.exponents in
    let t : ℕ = x.tasks in
    let ts : List ℕ = x.task in
    let m = a.room_is in
    let D : List ℕ = number_bytes x.direction in
    let E : List ℕ = number_bytes x.exponent in
    let s : List ℕ = whole x in
    let lA : length (number_bytes x.matrix) ≡ 8 * (n * n) = length-number_bytes x.matrix ∙ ap (λ (z : ℕ). 8 * z) m.matrix in
    let lD : length D ≡ 8 * (d * (n * n)) = length-number_bytes x.direction ∙ ap (λ (z : ℕ). 8 * z) m.direction in
    let lE : length E ≡ 8 * e = length-number_bytes x.exponent ∙ ap (λ (z : ℕ). 8 * z) m.exponent in
    let l₁ : length (P₁ x) ≡ directions_at n = omega (arith, lA) in
    let l₂ : length (P₂ x) ≡ exponents_at n d = rw length-append (omega (arith, lA, lD, swap8 d (n * n))) in
    let l₃ : length (P₃ x) ≡ tasks_at n d e = rw length-append (omega (arith, l₂, lE)) in
    let ls : length s ≡ sheet_length n d e t = length-append (P₃ x) (R₂ x) ∙ omega (arith, l₃, m.task) in
    let q : ℕ = tasks_at n d e + 1 in
    let Q₁ : List ℕ = P₁ x ++ (d ∷ []) in
    let Q₂ : List ℕ = P₂ x ++ (e ∷ []) in
    let Q₃ : List ℕ = P₃ x ++ (t ∷ []) in
    let u₁ : s ≡ Q₁ ++ (D ++ R₁ x) = whole₁ x ∙ sym (append_snoc (P₁ x) d (D ++ R₁ x)) in
    let u₂ : s ≡ Q₂ ++ (E ++ R₂ x) = whole₂ x ∙ sym (append_snoc (P₂ x) e (E ++ R₂ x)) in
    let u₃ : s ≡ Q₃ ++ ts = sym (append_snoc (P₃ x) t ts) in
    let m₁ : length Q₁ ≡ directions_at n + 1 = longer (P₁ x) d (directions_at n) l₁ in
    let m₂ : length Q₂ ≡ exponents_at n d + 1 = longer (P₂ x) e (exponents_at n d) l₂ in
    let m₃ : length Q₃ ≡ q = longer (P₃ x) t (tasks_at n d e) l₃ in
    let byte : (i : ℕ) → byte_at s (q + i) ≡ byte_at ts i = λ i. ap (λ (y : List ℕ). byte_at y (q + i)) u₃ ∙ ap (λ (k : ℕ). byte_at (Q₃ ++ ts) (k + i)) (sym m₃) ∙ get_or-append-add Q₃ ts i 0 in
    record {
      accepted = is_sheet s n d e t record {
        order_byte = refl;
        least = m.range.least;
        most = m.range.most;
        directions_byte = ap (λ (y : List ℕ). byte_at y (directions_at n)) (whole₁ x) ∙ get_or_at (P₁ x) d (D ++ R₁ x) 0 (directions_at n) l₁;
        directions = m.range.directions;
        exponents_byte = ap (λ (y : List ℕ). byte_at y (exponents_at n d)) (whole₂ x) ∙ get_or_at (P₂ x) e (E ++ R₂ x) 0 (exponents_at n d) l₂;
        exponents = m.range.exponents;
        tasks_byte = get_or_at (P₃ x) t ts 0 (tasks_at n d e) l₃;
        some = m.range.some;
        count = m.range.count;
        each = λ k l. let z : q + (2 * k + 1) ≡ q + 2 * k + 1 = omega arith in task_moved s ts (q + 2 * k) (2 * k) d e (byte (2 * k)) (rw z at (byte (2 * k + 1))) (a.each k l);
        long = ls;
      };
      same = same_sections x (words_at s 1 (n * n)) (words_at s (directions_at n + 1) (d * (n * n))) (words_at s (exponents_at n d + 1) e) (bytes_at s q (2 * t))
          (ap (words_at s 1) (sym m.matrix) ∙ ap (λ (y : List ℕ). words_at y 1 (length x.matrix)) (whole₁ x) ∙ words_back x.matrix (n ∷ []) ((d ∷ D) ++ R₁ x) 1 w.matrix refl)
          (ap (words_at s (directions_at n + 1)) (sym m.direction) ∙ ap (λ (y : List ℕ). words_at y (directions_at n + 1) (length x.direction)) u₁ ∙ words_back x.direction Q₁ (R₁ x) (directions_at n + 1) w.direction m₁)
          (ap (words_at s (exponents_at n d + 1)) (sym m.exponent) ∙ ap (λ (y : List ℕ). words_at y (exponents_at n d + 1) (length x.exponent)) u₂ ∙ words_back x.exponent Q₂ (R₂ x) (exponents_at n d + 1) w.exponent m₂)
          (ap (bytes_at s q) (sym m.task) ∙ ap (λ (y : List ℕ). bytes_at y q (length ts)) u₃ ∙ bytes_back ts Q₃ q m₃);
    }
