use Rattle.std.proofs.Common.{◌≤◌, ◌∙◌, ap, subst, rules}
use Rattle.sst_block_core.proofs.Heads.TablesAndLists.{shared_range}
use Rattle.sst_block_core.proofs.table.block.form_reader.FormReader.shared_prefix.Goals as goal

pub overflow_add-result : goal.overflow_add-result
overflow_add-result g c =
    let same = ap (λ r. r.payload) c.self.view_is ∙ c.key_range-2.ensures.payload ∙ c.key_range.ensures.payload in
    let all = rw same at (rw (c.bytes_of-left.ensures, c.bytes_of-right.ensures) at c.longest_shared_prefix_length-shared.ensures) in
    let n : c.prefix_before-length.result ≤ _ = subst (λ m. c.prefix_before-length.result ≤ m) all c.prefix_before-length.ensures in
    let range = c.key_range.ensures.range in
    let other = rw c.key_range.ensures.payload at c.key_range-2.ensures.range in
    let s = (shared_range _ _ _ _ range other n).0 in
    search rules

pub returns-clause-range : goal.returns-clause-range
returns-clause-range g c =
    let same = ap (λ r. r.payload) c.self.view_is ∙ c.key_range-2.ensures.payload ∙ c.key_range.ensures.payload in
    let all = rw same at (rw (c.bytes_of-left.ensures, c.bytes_of-right.ensures) at c.longest_shared_prefix_length-shared.ensures) in
    let n : c.prefix_before-length.result ≤ _ = subst (λ m. c.prefix_before-length.result ≤ m) all c.prefix_before-length.ensures in
    let range = c.key_range.ensures.range in
    let other = rw c.key_range.ensures.payload at c.key_range-2.ensures.range in
    (shared_range _ _ _ _ range other n).1

pub returns-clause-first : goal.returns-clause-first
returns-clause-first g c = λ x rest at.
    let same = ap (λ r. r.payload) c.self.view_is ∙ c.key_range-2.ensures.payload ∙ c.key_range.ensures.payload in
    let all = rw same at (rw (c.bytes_of-left.ensures, c.bytes_of-right.ensures) at c.longest_shared_prefix_length-shared.ensures) in
    let n : c.prefix_before-length.result ≤ _ = subst (λ m. c.prefix_before-length.result ≤ m) all c.prefix_before-length.ensures in
    let range = c.key_range.ensures.range in
    let other = rw c.key_range.ensures.payload at c.key_range-2.ensures.range in
    let key = (c.key_range.ensures.key x rest at).0 in
    rw (← key) (shared_range _ _ _ _ range other n).2

pub returns-clause-last : goal.returns-clause-last
returns-clause-last g c = λ x rest at.
    let same = ap (λ r. r.payload) c.self.view_is ∙ c.key_range-2.ensures.payload ∙ c.key_range.ensures.payload in
    let all = rw same at (rw (c.bytes_of-left.ensures, c.bytes_of-right.ensures) at c.longest_shared_prefix_length-shared.ensures) in
    let n : c.prefix_before-length.result ≤ _ = subst (λ m. c.prefix_before-length.result ≤ m) all c.prefix_before-length.ensures in
    let range = c.key_range.ensures.range in
    let other = rw c.key_range.ensures.payload at c.key_range-2.ensures.range in
    let key = ((rw c.key_range.ensures.payload at c.key_range-2.ensures.key) x rest at).0 in
    rw (← key) (shared_range _ _ _ _ range other n).3
