-- The block [A E; 0 A] as it is filled: zeros, and then the rows of A and E in their places. Assumes nothing.
use mathlib.Core.Path.{◌≡◌, refl, sym, ap, ◌∙◌}
use mathlib.Core.List.{List}
use mathlib.Core.Bool.{cond}
use mathlib.Core.Logic.{◌⊎◌, inl, inr, ⊎_elim}
use Prim.Native.Nat.{ℕ, zero, suc, ◌+◌, ◌-◌, ◌*◌, ◌<◌, ◌≤◌}
use native.Mathlib.Nat.{add-mul, zero-add}
use native.Mathlib.Omega.{arith}
use lib.Dec.{ltb}
use lib.ListN.{length}
use lib.Seq.{ext_get_or}
use lib.Ieee.{Float, nan}
use borrow.Author.Tests.{lt-ltb, le-ltb}
use Rattle.arithmetic_floats.specs.Float.{+zero}
use Rattle.arithmetic_matrices.specs.Matrix.{tab, grid, item, at, part, put}
use Rattle.arithmetic_matrices.specs.Kernels.{put_rows}
use Rattle.arithmetic_matrices.specs.Product.{zero_m}
use Rattle.arithmetic_matrices.specs.Workspace.{store}
use Rattle.arithmetic_floats.proofs.Order.{split}
use Rattle.arithmetic_matrices.proofs.MatrixLaws.{length-tab, get_or-tab, length-grid, grid_is, row_end, index_lt}
use Rattle.arithmetic_matrices.proofs.PartLaws.{length-put, length_part, at_part, get_d_part, get_or-put_before, get_or-put_after, get_or-put_in}
use Rattle.arithmetic_matrices.proofs.ProductLaws.{length-zero_m}
use Rattle.functions_definitions.specs.Exponential.{block}

-- place b of row p, and the c places from B on of row P, in rows of `step` numbers
row_apart : (step p b P B c : ℕ) → b < step → B + c ≤ step → (p ≡ P → (b < B) ⊎ (B + c ≤ b)) → (p * step + b < P * step + B) ⊎ (P * step + B + c ≤ p * step + b)
row_apart step p b P B c hb hc h = go (split p P) (split P p)
  where
    go : (p < P) ⊎ (P ≤ p) → (P < p) ⊎ (p ≤ P) → (p * step + b < P * step + B) ⊎ (P * step + B + c ≤ p * step + b)
    go (inl l) r = inl (omega (arith, row_end p P step l))
    go (inr l) (inl r) = inr (omega (arith, row_end P p step r))
    go (inr l) (inr r) =
        let e : p ≡ P = omega arith in
        let same : p * step ≡ P * step = ap (λ (x : ℕ). x * step) e in
        ⊎_elim (λ z. inl (omega arith)) (λ z. inr (omega arith)) (h e)

-- ---- rows placed from place B of row P on

module _ (w : List Float) (step c : ℕ) (f : ℕ → ℕ → Float) (o P B : ℕ) (begins : o ≡ P * step + B) (fits : B + c ≤ step) where
  -- the place where row r begins
  begin : (r : ℕ) → o + r * step ≡ (P + r) * step + B
  begin r = omega (arith, add-mul P r step)

  pub length-rows : (r : ℕ) → length (put_rows w o step r c f) ≡ length w
  unfolding put_rows
  length-rows zero = refl
  length-rows (suc r) = length-put (put_rows w o step r c f) (o + r * step) (tab c (f r)) ∙ length-rows r

  -- a place that none of the rows covers
  pub rows_out : (r p b : ℕ) → b < step → ((i : ℕ) → i < r → p ≡ P + i → (b < B) ⊎ (B + c ≤ b)) → item (put_rows w o step r c f) (p * step + b) ≡ item w (p * step + b)
  unfolding put_rows
  rows_out zero p b hb h = refl
  rows_out (suc r) p b hb h =
      ⊎_elim
      (λ z. get_or-put_before (put_rows w o step r c f) (o + r * step) (tab c (f r)) (p * step + b) nan (omega (arith, begin r)))
      (λ z. get_or-put_after (put_rows w o step r c f) (o + r * step) (tab c (f r)) (p * step + b) nan (omega (arith, begin r, length-tab c (f r))))
      (row_apart step p b (P + r) B c hb fits (h r (omega arith)))
      ∙ rows_out r p b hb (λ i l. h i (omega arith))

  -- a place of row i
  pub rows_in : (r i j : ℕ) → i < r → j < c → (P + r) * step ≤ length w → item (put_rows w o step r c f) ((P + i) * step + (B + j)) ≡ f i j
  unfolding put_rows
  rows_in zero i j hi hj hw = absurd (omega arith)
  rows_in (suc r) i j hi hj hw = go (split i r) (λ l. rows_in r i j l hj (omega (arith, row_end (P + r) (P + suc r) step (omega arith))))
    where
      room : (P + r) * step + step ≤ length w
      room = omega (arith, row_end (P + r) (P + suc r) step (omega arith))

      go : (i < r) ⊎ (r ≤ i) → (i < r → item (put_rows w o step r c f) ((P + i) * step + (B + j)) ≡ f i j) → item (put (put_rows w o step r c f) (o + r * step) (tab c (f r))) ((P + i) * step + (B + j)) ≡ f i j
      go (inl l) rest =
          get_or-put_before (put_rows w o step r c f) (o + r * step) (tab c (f r)) ((P + i) * step + (B + j)) nan (omega (arith, begin r, row_end (P + i) (P + r) step (omega arith)))
          ∙ rest l
      go (inr l) rest =
          let e : i ≡ r = omega arith in
          let place : (P + i) * step + (B + j) ≡ o + r * step + j = rw e (omega (arith, begin r)) in
          ap (item (put (put_rows w o step r c f) (o + r * step) (tab c (f r)))) place
          ∙ get_or-put_in (put_rows w o step r c f) (o + r * step) (tab c (f r)) j nan (rw length-tab hj) (omega (arith, begin r, length-tab c (f r), length-rows r))
          ∙ get_or-tab c (f r) j nan hj
          ∙ ap (λ (x : ℕ). f x j) (sym e)

  -- a place past them
  pub rows_past : (r q : ℕ) → (P + r) * step ≤ q → item (put_rows w o step r c f) q ≡ item w q
  unfolding put_rows
  rows_past zero q h = refl
  rows_past (suc r) q h =
      let end : (P + r) * step + step ≤ (P + suc r) * step = row_end (P + r) (P + suc r) step (omega arith) in
      get_or-put_after (put_rows w o step r c f) (o + r * step) (tab c (f r)) q nan (omega (arith, begin r, length-tab c (f r)))
      ∙ rows_past r q (omega arith)

-- ---- the block

-- what stands in row i, column j
abbrev block_entry : ℕ → List Float → List Float → ℕ → ℕ → Float
block_entry n a e i j = cond (ltb i n) (cond (ltb j n) (at n a i j) (at n e i (j - n))) (cond (ltb j n) +zero (at n a (i - n) (j - n)))

module _ (n : ℕ) (w a e w1 w2 w3 w4 : List Float) (room : (n + n) * (n + n) ≤ length w) (e1 : w1 ≡ store w 0 (zero_m (n + n))) (e2 : w2 ≡ put_rows w1 0 (n + n) n n (at n a))
    (e3 : w3 ≡ put_rows w2 n (n + n) n n (at n e)) (e4 : w4 ≡ put_rows w3 (n * (n + n) + n) (n + n) n n (at n a)) where
  zeros : length w1 ≡ length w
  unfolding store
  zeros = ap length e1 ∙ length-put w (256 * 0) (zero_m (n + n))

  one : 0 ≡ 0 * (n + n) + 0
  one = omega arith

  two : n ≡ 0 * (n + n) + n
  two = omega arith

  half : 0 + n ≤ n + n
  half = omega arith

  halves : n * (n + n) + n * (n + n) ≡ (n + n) * (n + n)
  halves = sym (add-mul n n (n + n))

  long2 : length w2 ≡ length w
  long2 = ap length e2 ∙ length-rows w1 (n + n) n (at n a) 0 0 0 one half n ∙ zeros

  long3 : length w3 ≡ length w
  long3 = ap length e3 ∙ length-rows w2 (n + n) n (at n e) n 0 n two refl_le n ∙ long2
    where
      refl_le : n + n ≤ n + n
      refl_le = omega arith

  long4 : length w4 ≡ length w
  long4 = ap length e4 ∙ length-rows w3 (n + n) n (at n a) (n * (n + n) + n) n n refl (omega arith) n ∙ long3

  -- what each step leaves in a place that it does not cover
  third_out : (i j : ℕ) → j < n + n → ((k : ℕ) → k < n → i ≡ n + k → (j < n) ⊎ (n + n ≤ j)) → item w4 (i * (n + n) + j) ≡ item w3 (i * (n + n) + j)
  third_out i j J h = ap (λ (l : List Float). item l (i * (n + n) + j)) e4 ∙ rows_out w3 (n + n) n (at n a) (n * (n + n) + n) n n refl (omega arith) n i j J h

  second_out : (i j : ℕ) → j < n + n → ((k : ℕ) → k < n → i ≡ 0 + k → (j < n) ⊎ (n + n ≤ j)) → item w3 (i * (n + n) + j) ≡ item w2 (i * (n + n) + j)
  second_out i j J h = ap (λ (l : List Float). item l (i * (n + n) + j)) e3 ∙ rows_out w2 (n + n) n (at n e) n 0 n two (omega arith) n i j J h

  first_out : (i j : ℕ) → j < n + n → ((k : ℕ) → k < n → i ≡ 0 + k → (j < 0) ⊎ (0 + n ≤ j)) → item w2 (i * (n + n) + j) ≡ item w1 (i * (n + n) + j)
  first_out i j J h = ap (λ (l : List Float). item l (i * (n + n) + j)) e2 ∙ rows_out w1 (n + n) n (at n a) 0 0 0 one half n i j J h

  -- and what it writes
  third_in : (i j : ℕ) → i < n → j < n → item w4 ((n + i) * (n + n) + (n + j)) ≡ at n a i j
  third_in i j I J = ap (λ (l : List Float). item l ((n + i) * (n + n) + (n + j))) e4 ∙ rows_in w3 (n + n) n (at n a) (n * (n + n) + n) n n refl (omega arith) n i j I J (omega (arith, long3))

  second_in : (i j : ℕ) → i < n → j < n → item w3 (i * (n + n) + (n + j)) ≡ at n e i j
  second_in i j I J =
      ap (λ (l : List Float). item l (i * (n + n) + (n + j))) e3
      ∙ rw zero-add at (rows_in w2 (n + n) n (at n e) n 0 n two (omega arith) n i j I J (omega (arith, long2, halves, zero-add n)))

  first_in : (i j : ℕ) → i < n → j < n → item w2 (i * (n + n) + j) ≡ at n a i j
  first_in i j I J =
      let place : i * (n + n) + j ≡ (0 + i) * (n + n) + (0 + j) = rw (zero-add i, zero-add j) in
      ap (λ (l : List Float). item l (i * (n + n) + j)) e2
      ∙ ap (item (put_rows w1 0 (n + n) n n (at n a))) place
      ∙ (rows_in w1 (n + n) n (at n a) 0 0 0 one half n i j I J (omega (arith, zeros, halves, zero-add n)))

  zero_in : (i j : ℕ) → i < n + n → j < n + n → item w1 (i * (n + n) + j) ≡ +zero
  unfolding store zero_m
  zero_in i j I J =
      let within = index_lt I J in
      ap (λ (l : List Float). item l (i * (n + n) + j)) e1
      ∙ rw zero-add at (get_or-put_in w 0 (tab ((n + n) * (n + n)) (λ k. +zero)) (i * (n + n) + j) nan (rw length-tab within) (omega (arith, length-tab ((n + n) * (n + n)) (λ (k : ℕ). +zero))))
      ∙ get_or-tab ((n + n) * (n + n)) (λ k. +zero) (i * (n + n) + j) nan within

  -- each place of the block, read back
  filled : (i j : ℕ) → i < n + n → j < n + n → item w4 (i * (n + n) + j) ≡ block_entry n a e i j
  filled i j I J = go (split i n) (split j n)
    where
      go : (i < n) ⊎ (n ≤ i) → (j < n) ⊎ (n ≤ j) → item w4 (i * (n + n) + j) ≡ block_entry n a e i j
      go (inl p) (inl q) =
          rw (lt-ltb i n p, lt-ltb j n q) (third_out i j J (λ k l z. absurd (omega arith)) ∙ second_out i j J (λ k l z. inl q) ∙ first_in i j p q)
      go (inl p) (inr q) =
          let place : i * (n + n) + j ≡ i * (n + n) + (n + (j - n)) = omega arith in
          rw (lt-ltb i n p, le-ltb j n q) (third_out i j J (λ k l z. absurd (omega arith)) ∙ ap (item w3) place ∙ second_in i (j - n) p (omega arith))
      go (inr p) (inl q) =
          rw (le-ltb i n p, lt-ltb j n q)
          (third_out i j J (λ k l z. inl q) ∙ second_out i j J (λ k l z. inl q) ∙ first_out i j J (λ k l z. absurd (omega arith)) ∙ zero_in i j I J)
      go (inr p) (inr q) =
          let row : i ≡ n + (i - n) = omega arith in
          let column : j ≡ n + (j - n) = omega arith in
          rw (le-ltb i n p, le-ltb j n q) ((λ k. item w4 (row k * (n + n) + column k)) ∙ third_in (i - n) (j - n) (omega arith) (omega arith))

  -- the places past it are as they were
  kept : (q : ℕ) → (n + n) * (n + n) ≤ q → item w4 q ≡ item w q
  unfolding store
  kept q h =
      ap (λ (l : List Float). item l q) e4
      ∙ rows_past w3 (n + n) n (at n a) (n * (n + n) + n) n n refl (omega arith) n q h
      ∙ ap (λ (l : List Float). item l q) e3
      ∙ rows_past w2 (n + n) n (at n e) n 0 n two (omega arith) n q (omega (arith, halves, zero-add n))
      ∙ ap (λ (l : List Float). item l q) e2
      ∙ rows_past w1 (n + n) n (at n a) 0 0 0 one half n q (omega (arith, halves, zero-add n))
      ∙ ap (λ (l : List Float). item l q) e1
      ∙ get_or-put_after w 0 (zero_m (n + n)) q nan (omega (arith, length-zero_m (n + n)))

  -- what was filled is the block
  pub block_filled : w4 ≡ store w 0 (block n a e)
  unfolding store block
  block_filled =
      ext_get_or nan w4 (put w 0 (grid (n + n) (n + n) (block_entry n a e))) (long4 ∙ sym (length-put w 0 (grid (n + n) (n + n) (block_entry n a e))))
      (λ q h. go q (split q ((n + n) * (n + n))))
    where
      G : List Float
      G = grid (n + n) (n + n) (block_entry n a e)

      same : part w4 0 ((n + n) * (n + n)) ≡ G
      same = grid_is (n + n) (n + n) (block_entry n a e) (part w4 0 ((n + n) * (n + n))) (length_part w4 0 ((n + n) * (n + n)))
          (λ i j I J. at_part w4 0 (n + n) (n + n) i j I J ∙ ap (item w4) (zero-add (i * (n + n) + j)) ∙ filled i j I J)

      go : (q : ℕ) → (q < (n + n) * (n + n)) ⊎ ((n + n) * (n + n) ≤ q) → item w4 q ≡ item (put w 0 G) q
      go q (inl l) =
          ap (item w4) (sym (zero-add q))
          ∙ sym (get_d_part w4 0 ((n + n) * (n + n)) q l)
          ∙ ap (λ (x : List Float). item x q) same
          ∙ sym (rw zero-add at (get_or-put_in w 0 G q nan (rw length-grid l) (omega (arith, length-grid (n + n) (n + n) (block_entry n a e)))))
      go q (inr l) = kept q l ∙ sym (get_or-put_after w 0 G q nan (omega (arith, length-grid (n + n) (n + n) (block_entry n a e))))
