use Rattle.std.proofs.Common.{◌≡◌, List, ℕ, ◌≤◌, ◌++◌, length, take, drop, sym, ap, ◌∙◌, append_assoc}
use Rattle.std.proofs.lemmas.List.{length-take-le, take-append-drop}
use Rattle.std.specs.Cmp.Lexicographic.{slice_cmp}
use Rattle.std.specs.Ordering.{nat_cmp, ordering_then}
use Rattle.sst_base.specs.OrderLaws.{slice_cmp-append}
use Rattle.sst_block_core.proofs.Check.KeyOrders.{decided}
use Rattle.sst_block_core.proofs.table.block.key_parts.compare_longer.Goals as goal

-- the bytes of the longer prefix that the shorter one is compared with decide first
by_shorter : (prefix rest shorter other front more : List ℕ) → length shorter ≤ length prefix → front ≡ take (length shorter) prefix → more ≡ drop (length shorter) prefix
    → slice_cmp nat_cmp (prefix ++ rest) (shorter ++ other)
    ≡ ordering_then (slice_cmp nat_cmp front shorter) (slice_cmp nat_cmp (more ++ rest) other)
by_shorter prefix rest shorter other front more h f m =
    let n = length shorter in
    ap (λ p. slice_cmp nat_cmp (p ++ rest) (shorter ++ other)) (sym (take-append-drop n prefix))
    ∙ ap (λ p. slice_cmp nat_cmp p (shorter ++ other)) (append_assoc (take n prefix) (drop n prefix) rest)
    ∙ slice_cmp-append (take n prefix) shorter (drop n prefix ++ rest) other (length-take-le n prefix h)
    ∙ (λ i. ordering_then (slice_cmp nat_cmp (sym f i) shorter) (slice_cmp nat_cmp (sym m i ++ rest) other))

pub returns-in-Equal : goal.returns-in-Equal
returns-in-Equal c =
    let later = slice_cmp nat_cmp (c.split_at.result.1.now ++ c.args.longer.1.now) c.args.shorter.1.now in
    c.compare_prefixed_slice.ensures
    ∙ ap (λ o. ordering_then o later) (sym c.in-Equal.is ∙ c.compare_bytes.ensures)
    ∙ sym (by_shorter c.args.longer.0.now c.args.longer.1.now c.args.shorter.0.now c.args.shorter.1.now _ _ c.requires c.split_at.ensures.front c.split_at.ensures.back)

pub returns-in_default : goal.returns-in_default
returns-in_default c =
    let later = slice_cmp nat_cmp (c.split_at.result.1.now ++ c.args.longer.1.now) c.args.shorter.1.now in
    decided c.compare_bytes.result later c.in_default.not-Equal
    ∙ ap (λ o. ordering_then o later) c.compare_bytes.ensures
    ∙ sym (by_shorter c.args.longer.0.now c.args.longer.1.now c.args.shorter.0.now c.args.shorter.1.now _ _ c.requires c.split_at.ensures.front c.split_at.ensures.back)
