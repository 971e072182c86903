-- The fronts of keys tell their order.
use Rattle.std.proofs.Common.{◌≡◌, ℕ, ◌<◌, true, false, List, arith, sym, ◌∙◌, ap}
use Rattle.std.specs.Cmp.{nat_cmp_is}
use Rattle.std.specs.Cmp.Lexicographic.{slice_cmp}
use Rattle.std.specs.Ordering.{nat_cmp, ordering_then, is_lt}
use Rattle.std.specs.declared.cmp.Ordering.TheVariants.{Less, Greater}
use Rattle.sstable_blocks.specs.Prelude.{IsBytes, Entry}
use Rattle.sstable_blocks.specs.BlockLaws.{numbers_decide}
use Rattle.sst_sources.specs.Fronts.{HasOrderOf, key_front}
use Rattle.sst_sources.specs.Merge.{entry_cmp}

-- keys whose fronts differ have the order of their fronts
pub fronts_decide : (x y : List ℕ) → IsBytes x → IsBytes y → (key_front x ≡ key_front y → ⊥) → nat_cmp (key_front x) (key_front y) ≡ slice_cmp nat_cmp x y
unfolding key_front
fronts_decide x y b c n = numbers_decide 16 x y b c n

-- so has a key beside all others, by its number
pub number_decides : (key : List ℕ) (number : ℕ) → IsBytes key → number ≡ key_front key → HasOrderOf key number
number_decides key number b e = λ other c n. ap (λ k. nat_cmp k (key_front other)) e ∙ fronts_decide key other b c (λ same. n (e ∙ same))

-- of two entries whose fronts differ that of the lesser front goes first
pub entry_tells : (x y : Entry) → IsBytes x.key.user_key → IsBytes y.key.user_key → key_front x.key.user_key < key_front y.key.user_key
    → (is_lt (entry_cmp y x) ≡ false) × (is_lt (entry_cmp x y) ≡ true)
entry_tells x y v w less =
    let kx = x.key.user_key in
    let ky = y.key.user_key in
    let more : nat_cmp (key_front ky) (key_front kx) ≡ Greater = sym (nat_cmp_is (key_front ky) (key_front kx) Greater less) in
    let under : nat_cmp (key_front kx) (key_front ky) ≡ Less = sym (nat_cmp_is (key_front kx) (key_front ky) Less less) in
    let after = fronts_decide ky kx w v (λ q. omega (arith, q, less)) in
    let ahead = fronts_decide kx ky v w (λ q. omega (arith, q, less)) in
    (ap (λ o. is_lt (ordering_then o (nat_cmp x.key.seqno y.key.seqno))) (sym after ∙ more), ap (λ o. is_lt (ordering_then o (nat_cmp y.key.seqno x.key.seqno))) (sym ahead ∙ under))
