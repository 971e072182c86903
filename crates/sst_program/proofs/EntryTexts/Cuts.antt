-- Bytes that are cut at the first one of a value, and at their line feeds.
use Rattle.std.proofs.Common.{◌≡◌, ◌≢◌, ℕ, ◌<◌, suc, List, [], ◌∷◌, ◌++◌, length, arith, eq-eqb, refl, false}
use Rattle.std.specs.Prelude.{Some, None, nat_eq}
use Rattle.sst_program.specs.Line.{Lacks, cut_at}
use Rattle.sst_program.specs.Lines.{lines_of}

-- after the first byte
behind_first : (c b : ℕ) (bytes : List ℕ) → Lacks c (b ∷ bytes) → Lacks c bytes
behind_first c b bytes h k lt = h (suc k) (omega arith)

-- the test of a byte that is another one
other : (b c : ℕ) → b ≢ c → nat_eq b c ≡ false
other b c h = grind arith

pub cut-joined : (c : ℕ) (a b : List ℕ) → Lacks c a → cut_at c (a ++ (c ∷ b)) ≡ Some (a, b)
unfolding cut_at
cut-joined c [] b h = rw (eq-eqb c c refl) refl
cut-joined c (x ∷ a) b h =
    rw (other x c (h 0 (omega arith)), cut-joined c a b (behind_first c x a h)) refl

pub cut-none : (c : ℕ) (a : List ℕ) → Lacks c a → cut_at c a ≡ None
unfolding cut_at
cut-none c [] h = refl
cut-none c (x ∷ a) h = rw (other x c (h 0 (omega arith)), cut-none c a (behind_first c x a h)) refl

pub lines-joined : (a b : List ℕ) → Lacks 10 a → lines_of (a ++ (10 ∷ b)) ≡ a ∷ lines_of b
unfolding lines_of
lines-joined [] b h = refl
lines-joined (x ∷ a) b h = rw (other x 10 (h 0 (omega arith)), lines-joined a b (behind_first 10 x a h)) refl

lines-last : (x : ℕ) (a : List ℕ) → Lacks 10 (x ∷ a) → lines_of (x ∷ a) ≡ (x ∷ a) ∷ []
unfolding lines_of
lines-last x [] h = rw (other x 10 (h 0 (omega arith))) refl
lines-last x (y ∷ a) h = rw (other x 10 (h 0 (omega arith)), lines-last y a (behind_first 10 x (y ∷ a) h)) refl

pub lines-empty : lines_of [] ≡ []
unfolding lines_of
lines-empty = refl

pub lines-only : (a : List ℕ) → 0 < length a → Lacks 10 a → lines_of a ≡ a ∷ lines_of []
lines-only [] some h = absurd (omega arith)
lines-only (x ∷ a) some h = rw (lines-empty, lines-last x a h) refl
