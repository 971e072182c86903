-- What a check of a parted table counts, part by part, is the summary of its parts.
use Rattle.std.proofs.Common.{◌≡◌, ℕ, suc, ◌+◌, ◌-◌, ◌≤◌, ◌^◌, min, max, List, [], ◌∷◌, ◌++◌, length, refl, arith, sym, ◌∙◌, ap, Option, Some, None, append_assoc, append-nil, length-append}
use Rattle.std.specs.List.{AllZip}
use Rattle.sstable_blocks.specs.Prelude.{Entry, Handle}
use Rattle.sst_parts.specs.PartChecks.{no_parts, passed_on, whole_of, whole_with}
use Rattle.sst_parts.specs.Parts.{IsStoredPart}
use Rattle.sstable_blocks.specs.RunPlaces.{part_in}
use Rattle.sst_parts.specs.declared.checking.Passed.{Passed}
use Rattle.sst_parts.proofs.Writing.Joins.{joined-append}
use Rattle.sstable_blocks.specs.Blocks.{joined}
use Rattle.sstable_blocks.specs.Opened.{range_of}
use Rattle.sstable_blocks.specs.RunChecks.{first_of, greatest_from, last_of, least_from, summary_of}
use Rattle.sstable_blocks.specs.RunReading.{Hashes}
use Rattle.sstable_blocks.specs.SummaryLaws.{first_of-append, greatest_append, greatest_of_both, last_of-append, least_append, least_of_both, least_under, same_summary, sound_some}
use Rattle.sstable_blocks.specs.declared.run.checking.RunSummary.{RunSummary}

-- what is known after all parts
abbrev pub passed_parts : Passed → List Handle → List (List (List Entry)) → Passed
passed_parts s [] parts = s
passed_parts s (h ∷ hs) [] = s
passed_parts s (h ∷ hs) (p ∷ ps) = passed_parts (passed_on s h (summary_of p)) hs ps

-- the least and the greatest of two lists are those of both
least_both : (xs ys : List Entry) → min (least_from (2 ^ 64 - 1) xs) (least_from (2 ^ 64 - 1) ys) ≡ least_from (2 ^ 64 - 1) (xs ++ ys)
least_both xs ys =
    let n = least_from (2 ^ 64 - 1) xs in
    let under = least_under (2 ^ 64 - 1) xs in
    let same : min n (2 ^ 64 - 1) ≡ n = omega arith in
    sym (least_of_both n (2 ^ 64 - 1) ys) ∙ ap (λ k. least_from k ys) same ∙ sym (least_append (2 ^ 64 - 1) xs ys)

greatest_both : (xs ys : List Entry) → max (greatest_from 0 xs) (greatest_from 0 ys) ≡ greatest_from 0 (xs ++ ys)
greatest_both xs ys =
    let n = greatest_from 0 xs in
    let same : max n 0 ≡ n = omega arith in
    sym (greatest_of_both n 0 ys) ∙ ap (λ k. greatest_from k ys) same ∙ sym (greatest_append 0 xs ys)

capped : (n m : ℕ) → min (min n (2 ^ 64 - 1) + min m (2 ^ 64 - 1)) (2 ^ 64 - 1) ≡ min (n + m) (2 ^ 64 - 1)
capped n m = omega arith

capped_more : (n m : ℕ) → min (min n (2 ^ 64 - 1) + m) (2 ^ 64 - 1) ≡ min (n + m) (2 ^ 64 - 1)
capped_more n m = omega arith

-- the first part
whole_first : (p : List (List Entry)) → whole_with None (summary_of []) (summary_of p) ≡ whole_of p
whole_first p =
    let least : min (2 ^ 64 - 1) (least_from (2 ^ 64 - 1) (joined p)) ≡ least_from (2 ^ 64 - 1) (joined p) = (let under = least_under (2 ^ 64 - 1) (joined p) in omega arith) in
    let blocks : min (0 + length p) (2 ^ 64 - 1) ≡ min (length p) (2 ^ 64 - 1) = omega arith in
    let count : min (min 0 (2 ^ 64 - 1) + min (length (joined p)) (2 ^ 64 - 1)) (2 ^ 64 - 1) ≡ min (length (joined p)) (2 ^ 64 - 1) = omega arith in
    let greatest : max 0 (greatest_from 0 (joined p)) ≡ greatest_from 0 (joined p) = omega arith in
    same_summary (whole_with None (summary_of []) (summary_of p)) (whole_of p) blocks count refl refl refl refl least greatest

-- a part more
whole_more : (done p : List (List Entry)) (g : Handle) → 1 ≤ length (joined done) → 1 ≤ length (joined p) → whole_with (Some g) (whole_of done) (summary_of p) ≡ whole_of (done ++ p)
whole_more done p g some more =
    let both = joined-append done p in
    let xs = joined done in
    let ys = joined p in
    let first : first_of xs ≡ first_of (joined (done ++ p)) = sym (first_of-append xs ys some) ∙ ap first_of (sym both) in
    let last : last_of ys ≡ last_of (joined (done ++ p)) = sym (last_of-append xs ys more) ∙ ap last_of (sym both) in
    same_summary (whole_with (Some g) (whole_of done) (summary_of p)) (whole_of (done ++ p))
    (capped_more (length done) (length p) ∙ ap (λ n. min n (2 ^ 64 - 1)) (sym (length-append done p)))
    (capped (length xs) (length ys) ∙ ap (λ n. min n (2 ^ 64 - 1)) (sym (length-append xs ys) ∙ ap length (sym both)))
    (ap (λ (q : List ℕ × ℕ). q.0) first) (ap (λ (q : List ℕ × ℕ). q.1) first)
    (ap (λ (q : List ℕ × ℕ). q.0) last) (ap (λ (q : List ℕ × ℕ). q.1) last)
    (least_both xs ys ∙ ap (least_from (2 ^ 64 - 1)) (sym both))
    (greatest_both xs ys ∙ ap (greatest_from 0) (sym both))

module _ (c : Hashes) (bytes : List ℕ) where
  part_some : (p : List (List Entry)) (h : Handle) → IsStoredPart c bytes p h → 1 ≤ length (joined p)
  part_some p h d = sound_some c p (part_in bytes (range_of h)) d.places d.sound

  -- as many handles as parts
  pub parts_count : (parts : List (List (List Entry))) (hs : List Handle) → AllZip (IsStoredPart c bytes) parts hs → length hs ≡ length parts
  parts_count [] [] stored = refl
  parts_count [] (h ∷ hs) stored = absurd stored
  parts_count (p ∷ ps) [] stored = absurd stored
  parts_count (p ∷ ps) (h ∷ hs) stored = ap suc (parts_count ps hs stored.1)

  -- after some parts
  whole_behind : (s : Passed) (g : Handle) (done : List (List Entry)) (parts : List (List (List Entry))) (hs : List Handle) → s.last ≡ Some g → s.whole ≡ whole_of done → 1 ≤ length (joined done) → AllZip (IsStoredPart c bytes) parts hs
      → (passed_parts s hs parts).whole ≡ whole_of (done ++ joined parts)
  whole_behind s g done [] [] last is some stored = is ∙ ap whole_of (sym (append-nil done))
  whole_behind s g done [] (h ∷ hs) last is some stored = absurd stored
  whole_behind s g done (p ∷ ps) [] last is some stored = absurd stored
  whole_behind s g done (p ∷ ps) (h ∷ hs) last is some stored =
      let run = summary_of p in
      let one : whole_with s.last s.whole run ≡ whole_of (done ++ p) =
      ap (λ (o : Option Handle). whole_with o s.whole run) last ∙ ap (λ (w : RunSummary). whole_with (Some g) w run) is ∙ whole_more done p g some (part_some p h stored.0) in
      let more : 1 ≤ length (joined (done ++ p)) = (let n = ap length (joined-append done p) in let m = length-append (joined done) (joined p) in omega arith) in
      whole_behind (passed_on s h run) h (done ++ p) ps hs refl one more stored.1 ∙ ap whole_of (append_assoc done p (joined ps))

  pub whole_all : (parts : List (List (List Entry))) (hs : List Handle) → 1 ≤ length hs → AllZip (IsStoredPart c bytes) parts hs → (passed_parts no_parts hs parts).whole ≡ whole_of (joined parts)
  whole_all parts [] some stored = absurd (omega arith)
  whole_all [] (h ∷ hs) some stored = absurd stored
  whole_all (p ∷ ps) (h ∷ hs) some stored = whole_behind (passed_on no_parts h (summary_of p)) h p ps hs refl (whole_first p) (part_some p h stored.0) stored.1
