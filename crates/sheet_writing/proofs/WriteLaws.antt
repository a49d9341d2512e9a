-- What a call of the writer leaves and answers, where its questions pass and where they do not. Assumes nothing.
use Prim.Native.Nat.{ℕ, ◌≤◌}
use native.Mathlib.Omega.{arith}
use mathlib.Core.Path.{◌≡◌, refl, sym, ap, subst, ◌∙◌}
use mathlib.Core.List.{List, ◌++◌}
use lib.ListN.{length, take, drop}
use lib.Seq.{take_at}
use Rattle.arithmetic_questions.specs.Result.{Result, done, passes, exit, outcome, ◌>>=◌}
use Rattle.sheet_encoding.specs.declared.parse.SheetRefusal.{SheetRefusal}
use Rattle.sheet_encoding.specs.declared.parse.SheetRefusal.TheVariants.{ByteMissingOrExtra, OutOfRange, WrongLength}
use Rattle.std.specs.Prelude.{Ok, Err}
use Rattle.sheet_encoding.specs.Parse.{Read, sheet_numbered}
use Rattle.sheet_encoding.specs.Kernels.{Wrote}
use Rattle.sheet_encoding.proofs.ParseLaws.{sheet_is}
use Rattle.sheet_writing.specs.Sections.{Sections, sheet_bytes}
use Rattle.sheet_writing.specs.Written.{questions, written, Below, ReadAs, WroteSheet}
use Rattle.sheet_writing.specs.Kernels.{Words}
use Rattle.sheet_writing.proofs.QuestionLaws.{Accepted, questions_is, questions_yes}
use Rattle.sheet_writing.proofs.BackLaws.{bytes_again, sections_accepted, read_again}

-- ---- what is written, by what the questions found

pub written_yes : (x : Sections) (room v : ℕ) → questions x room ≡ Ok v → written x room ≡ done 0 (sheet_bytes x)
unfolding written ◌>>=◌
written_yes x room v h = rw h

-- a refusal passes through: it gives nothing, and leaves what was lent
module _ (g : Unit {0} → Result (List ℕ)) where
  refused_outcome : (why : SheetRefusal) → outcome (sheet_numbered why >>= g) ≡ sheet_numbered why
  unfolding outcome ◌>>=◌
  refused_outcome (ByteMissingOrExtra p) = refl
  refused_outcome (OutOfRange p) = refl
  refused_outcome (WrongLength x y) = refl

  refused_exit : {B : Type 0} (why : SheetRefusal) (read : List ℕ → B) (lent : B) → exit read (sheet_numbered why >>= g) lent ≡ lent
  unfolding exit ◌>>=◌
  refused_exit (ByteMissingOrExtra p) read lent = refl
  refused_exit (OutOfRange p) read lent = refl
  refused_exit (WrongLength x y) read lent = refl

written_no : (x : Sections) (room : ℕ) (why : SheetRefusal) → questions x room ≡ Err why → written x room ≡ (sheet_numbered why >>= λ _. done 0 (sheet_bytes x))
unfolding written
written_no x room why h = rw h

-- ---- the sections of an accepted sheet pass, and are written as that sheet

pub sheet_passes : (s : List ℕ) (x : Sections) (room : ℕ) → ReadAs s x → length s ≤ room → Accepted x room
sheet_passes s x room r l =
    subst (λ (y : Sections). Accepted y room) r.same (sections_accepted s x.order x.directions x.exponents x.tasks room (sheet_is s _ _ _ _ r.accepted) l)

sheet_again : (s : List ℕ) (x : Sections) → Below 256 s → ReadAs s x → sheet_bytes x ≡ s
sheet_again s x b r = ap sheet_bytes (sym r.same) ∙ bytes_again s x.order x.directions x.exponents x.tasks b (sheet_is s _ _ _ _ r.accepted)

-- ---- the call

no_value : (v : ℕ) (why : SheetRefusal) → ◌≡◌ {A = Read} (Ok v) (Err why) → ⊥
no_value v why h = let z : ◌≡◌ {A = ℕ} 0 1 = cc in omega arith

module _ (x : Sections) (out : List ℕ) where
  pub wrote_sheet : (out' : List ℕ) (v k : ℕ) → Words x → questions x (length out) ≡ Ok v → Wrote out 0 (sheet_bytes x) out' k → WroteSheet x out out' k
  unfolding exit
  wrote_sheet out' v k w h o =
      let s : List ℕ = sheet_bytes x in
      let y = written_yes x (length out) v h in
      let l : k ≡ length s = omega (arith, o.past) in
      let b : out' ≡ s ++ drop (length s) out = o.bytes in
      record {
        long = rw y l;
        bytes = rw y b;
        read_back = λ _. subst (λ (z : List ℕ). ReadAs z x) (sym (ap (take k) b ∙ take_at s (drop (length s) out) k (sym l))) (read_again x (length out) w (questions_is x (length out) v h));
        written_back = λ t below r fits. let e : s ≡ t = sheet_again t x below r in (l ∙ ap length e, b ∙ ap (λ (z : List ℕ). z ++ drop (length z) out) e);
      }

  pub refused_sheet : (why : SheetRefusal) → questions x (length out) ≡ Err why → WroteSheet x out out 0
  refused_sheet why h =
      let y = written_no x (length out) why h in
      let g : Unit {0} → Result (List ℕ) = λ _. done 0 (sheet_bytes x) in
      record {
        long = rw y (sym (refused_exit g why length 0));
        bytes = rw y (sym (refused_exit g why (λ s. s ++ drop (length s) out) out));
        read_back = λ p. absurd (omega arith);
        written_back = λ t below r fits. let p = questions_yes x (length out) (sheet_passes t x (length out) r fits) in absurd (no_value (length out) why (sym p ∙ h));
      }

  pub refused_found : (why : SheetRefusal) → questions x (length out) ≡ Err why → sheet_numbered why ≡ outcome (written x (length out))
  refused_found why h = rw (written_no x (length out) why h) (sym (refused_outcome (λ _. done 0 (sheet_bytes x)) why))

  pub wrote_found : (v : ℕ) → questions x (length out) ≡ Ok v → passes ≡ outcome (written x (length out))
  unfolding outcome
  wrote_found v h = rw (written_yes x (length out) v h)
