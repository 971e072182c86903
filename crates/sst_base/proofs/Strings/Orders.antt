-- The bytewise order, a word or a byte a step.
use Rattle.std.proofs.Common.{◌≡◌, ◌≢◌, ℕ, ◌+◌, ◌*◌, ◌<◌, ◌≤◌, suc, List, [], ◌∷◌, ◌++◌, length, get_or, take, drop, min, refl, arith, sym, ◌∙◌, ap, drop-cons, length-drop, add-one, take-add}
use Rattle.std.proofs.lemmas.List.{length-take-le, take-append-drop}
use Rattle.std.proofs.lemmas.Cmp.{ranked}
use Rattle.std.specs.Cmp.{nat_cmp_is}
use Rattle.std.specs.Cmp.Lexicographic.{slice_cmp}
use Rattle.std.specs.Ordering.{nat_cmp, ordering_then}
use Rattle.std.specs.declared.cmp.Ordering.{Ordering}
use Rattle.std.specs.declared.cmp.Ordering.TheVariants.{Less, Equal, Greater}
use Rattle.byteorder.specs.Endian.{big_number}
use Rattle.byteorder.specs.Numbers.{big_from-take}
use Rattle.sst_base.specs.Bytes.{IsBytes}
use Rattle.sst_base.specs.BytesLaws.{IsBytes-take, IsBytes-drop, take-drop-more}
use Rattle.sst_base.specs.KeyOrderLaws.{slice_cmp-equal}
use Rattle.sst_base.specs.NumberLaws.{slice_cmp-big_number}
use Rattle.sst_base.specs.OrderLaws.{nat_cmp-add_left, slice_cmp-append}

-- where one string has ended, the lengths decide
one_ended : (x y : List ℕ) → min (length x) (length y) ≡ 0 → slice_cmp nat_cmp x y ≡ nat_cmp (length x) (length y)
one_ended [] [] h = refl
one_ended [] (y ∷ ys) h = nat_cmp_is 0 (length (y ∷ ys)) Less (omega arith)
one_ended (x ∷ xs) [] h = nat_cmp_is (length (x ∷ xs)) 0 Greater (omega arith)
one_ended (x ∷ xs) (y ∷ ys) h = absurd (omega arith)

-- a byte at an index, and the bytes after it
at_place : (a b : List ℕ) (i : ℕ) → i < length a → i < length b → slice_cmp nat_cmp (drop i a) (drop i b) ≡ ordering_then (nat_cmp (get_or a i 0) (get_or b i 0)) (slice_cmp nat_cmp (drop (suc i) a) (drop (suc i) b))
at_place a b i h k = ap (λ x. slice_cmp nat_cmp x (drop i b)) (drop-cons a i 0 h) ∙ ap (slice_cmp nat_cmp (get_or a i 0 ∷ drop (suc i) a)) (drop-cons b i 0 k)

pub tails_same : (a b : List ℕ) (i : ℕ) (whole : Ordering) → i < length a → i < length b → get_or a i 0 ≡ get_or b i 0 → slice_cmp nat_cmp (drop i a) (drop i b) ≡ whole → slice_cmp nat_cmp (drop (i + 1) a) (drop (i + 1) b) ≡ whole
tails_same a b i whole h k e s =
    rw add-one
    (ap (λ o. ordering_then o (slice_cmp nat_cmp (drop (suc i) a) (drop (suc i) b))) (nat_cmp_is (get_or a i 0) (get_or b i 0) Equal e) ∙ sym (at_place a b i h k) ∙ s)

-- the first of two comparisons decides where it is not equal
pub decided : (o w : Ordering) → o ≢ Equal → ordering_then o w ≡ o
decided Less w n = refl
decided Equal w n = absurd (n refl)
decided Greater w n = refl

differ : (m n : ℕ) → m ≢ n → nat_cmp m n ≢ Equal
differ m n ne e = ne (ranked m n Equal (sym e))

pub tails_differ : (a b : List ℕ) (i : ℕ) (whole : Ordering) → i < length a → i < length b → get_or a i 0 ≢ get_or b i 0 → slice_cmp nat_cmp (drop i a) (drop i b) ≡ whole → nat_cmp (get_or a i 0) (get_or b i 0) ≡ whole
tails_differ a b i whole h k ne s =
    sym (decided (nat_cmp (get_or a i 0) (get_or b i 0)) (slice_cmp nat_cmp (drop (suc i) a) (drop (suc i) b)) (differ _ _ ne))
    ∙ sym (at_place a b i h k) ∙ s

pub tails_end : (a b : List ℕ) (i : ℕ) (whole : Ordering) → i ≡ min (length a) (length b) → slice_cmp nat_cmp (drop i a) (drop i b) ≡ whole → nat_cmp (length a) (length b) ≡ whole
tails_end a b i whole e s =
    let la : i + length (drop i a) ≡ length a = omega (arith, length-drop i a) in
    let lb : i + length (drop i b) ≡ length b = omega (arith, length-drop i b) in
    let none : min (length (drop i a)) (length (drop i b)) ≡ 0 = omega (arith, length-drop i a, length-drop i b) in
    ap (λ n. nat_cmp n (length b)) (sym la) ∙ ap (nat_cmp (i + length (drop i a))) (sym lb)
    ∙ nat_cmp-add_left i (length (drop i a)) (length (drop i b))
    ∙ sym (one_ended (drop i a) (drop i b) none) ∙ s

-- the word at an index, and the bytes after it
at_word : (a b : List ℕ) (i : ℕ) → i + 8 ≤ length a → i + 8 ≤ length b → slice_cmp nat_cmp (drop i a) (drop i b) ≡ ordering_then (slice_cmp nat_cmp (take 8 (drop i a)) (take 8 (drop i b))) (slice_cmp nat_cmp (drop (i + 8) a) (drop (i + 8) b))
at_word a b i h k =
    let la : length (take 8 (drop i a)) ≡ 8 = length-take-le 8 (drop i a) (omega (arith, length-drop i a)) in
    let lb : length (take 8 (drop i b)) ≡ 8 = length-take-le 8 (drop i b) (omega (arith, length-drop i b)) in
    ap (λ x. slice_cmp nat_cmp x (drop i b)) (sym (take-drop-more i 8 a))
    ∙ ap (slice_cmp nat_cmp (take 8 (drop i a) ++ drop (i + 8) a)) (sym (take-drop-more i 8 b))
    ∙ slice_cmp-append (take 8 (drop i a)) (take 8 (drop i b)) (drop (i + 8) a) (drop (i + 8) b) (la ∙ sym lb)

-- words are in the order of their numbers
word_cmp : (a b : List ℕ) (i : ℕ) → IsBytes a → IsBytes b → i + 8 ≤ length a → i + 8 ≤ length b → slice_cmp nat_cmp (take 8 (drop i a)) (take 8 (drop i b)) ≡ nat_cmp (big_number 8 (drop i a)) (big_number 8 (drop i b))
word_cmp a b i c d h k =
    let la : length (take 8 (drop i a)) ≡ 8 = length-take-le 8 (drop i a) (omega (arith, length-drop i a)) in
    let lb : length (take 8 (drop i b)) ≡ 8 = length-take-le 8 (drop i b) (omega (arith, length-drop i b)) in
    slice_cmp-big_number 8 (take 8 (drop i a)) (take 8 (drop i b)) (IsBytes-take 8 (drop i a) (IsBytes-drop i a c)) (IsBytes-take 8 (drop i b) (IsBytes-drop i b d)) la lb
    ∙ (λ j. nat_cmp (big_from-take 0 8 8 (drop i a) (omega arith) j) (big_from-take 0 8 8 (drop i b) (omega arith) j))

-- one more word agrees
pub words_agree : (a b : List ℕ) (i x y : ℕ) → IsBytes a → IsBytes b → 8 * i + 8 ≤ length a → 8 * i + 8 ≤ length b → x ≡ big_number 8 (drop (8 * i) a) → y ≡ big_number 8 (drop (8 * i) b) → x ≡ y → take (8 * i) a ≡ take (8 * i) b → take (8 * (i + 1)) a ≡ take (8 * (i + 1)) b
words_agree a b i x y c d h k p q e s =
    let n : 8 * (i + 1) ≡ 8 * i + 8 = omega arith in
    let same : take 8 (drop (8 * i) a) ≡ take 8 (drop (8 * i) b) = (slice_cmp-equal _ _).0 (word_cmp a b (8 * i) c d h k ∙ sym (nat_cmp_is _ _ Equal (sym p ∙ e ∙ q))) in
    ap (λ m. take m a) n ∙ take-add (8 * i) 8 a ∙ (λ j. s j ++ same j) ∙ sym (take-add (8 * i) 8 b) ∙ ap (λ m. take m b) (sym n)

-- where the first bytes are the same, the others decide
pub same_front : (a b : List ℕ) (n : ℕ) → n ≤ length a → n ≤ length b → take n a ≡ take n b → slice_cmp nat_cmp (drop n a) (drop n b) ≡ slice_cmp nat_cmp a b
same_front a b n h k s =
    let la : length (take n a) ≡ n = length-take-le n a h in
    let lb : length (take n b) ≡ n = length-take-le n b k in
    let same : slice_cmp nat_cmp (take n a) (take n b) ≡ Equal = (slice_cmp-equal _ _).1 s in
    ap (λ o. ordering_then o (slice_cmp nat_cmp (drop n a) (drop n b))) (sym same)
    ∙ sym (slice_cmp-append (take n a) (take n b) (drop n a) (drop n b) (la ∙ sym lb))
    ∙ (λ j. slice_cmp nat_cmp (take-append-drop n a j) (take-append-drop n b j))

-- after the same bytes the words at an index decide where they differ
pub words_decide : (a b : List ℕ) (i x y : ℕ) → IsBytes a → IsBytes b → i + 8 ≤ length a → i + 8 ≤ length b → x ≡ big_number 8 (drop i a) → y ≡ big_number 8 (drop i b) → x ≢ y → take i a ≡ take i b → nat_cmp x y ≡ slice_cmp nat_cmp a b
words_decide a b i x y c d h k p q ne s =
    let cmp : nat_cmp x y ≡ slice_cmp nat_cmp (take 8 (drop i a)) (take 8 (drop i b)) = ap (λ m. nat_cmp m y) p ∙ ap (nat_cmp _) q ∙ sym (word_cmp a b i c d h k) in
    sym (decided (nat_cmp x y) (slice_cmp nat_cmp (drop (i + 8) a) (drop (i + 8) b)) (differ x y ne))
    ∙ ap (λ o. ordering_then o (slice_cmp nat_cmp (drop (i + 8) a) (drop (i + 8) b))) cmp
    ∙ sym (at_word a b i h k) ∙ same_front a b i (omega (arith, h)) (omega (arith, k)) s

-- where they are the same, and end the shorter string, the lengths decide
pub last_words_same : (a b : List ℕ) (i x y : ℕ) → IsBytes a → IsBytes b → i + 8 ≡ min (length a) (length b) → x ≡ big_number 8 (drop i a) → y ≡ big_number 8 (drop i b) → x ≡ y → take i a ≡ take i b → nat_cmp (length a) (length b) ≡ slice_cmp nat_cmp a b
last_words_same a b i x y c d e p q xy s =
    let h : i + 8 ≤ length a = omega (arith, e) in
    let k : i + 8 ≤ length b = omega (arith, e) in
    let same : slice_cmp nat_cmp (take 8 (drop i a)) (take 8 (drop i b)) ≡ Equal = word_cmp a b i c d h k ∙ sym (nat_cmp_is _ _ Equal (sym p ∙ xy ∙ q)) in
    tails_end a b (i + 8) (slice_cmp nat_cmp a b) e
    (ap (λ o. ordering_then o (slice_cmp nat_cmp (drop (i + 8) a) (drop (i + 8) b))) (sym same)
    ∙ sym (at_word a b i h k) ∙ same_front a b i (omega (arith, h)) (omega (arith, k)) s)
