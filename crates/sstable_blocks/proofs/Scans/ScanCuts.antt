-- Seeks by the bounds of a range.
use Rattle.std.proofs.Common.{◌≡◌, ℕ, ◌+◌, Bool, true, false, cond, List, [], ◌∷◌, length, refl, arith, sym, ◌∙◌, ap, subst, Option, Some, None}
use Rattle.std.proofs.lemmas.Bool.{le-leb}
use Rattle.std.proofs.lemmas.List.Sums.{sum_by-cons}
use Rattle.std.specs.List.{count_by}
use Rattle.std.specs.Cmp.Lexicographic.{slice_cmp}
use Rattle.std.specs.Ordering.{nat_cmp, is_lt, is_le}
use Rattle.std.specs.declared.cmp.Ordering.{Ordering}
use Rattle.std.specs.declared.cmp.Ordering.TheVariants.{Less, Equal, Greater}
use Rattle.std.specs.Range.Bound.{bound_map}
use Rattle.std.specs.declared.ops.Bound.{Bound}
use Rattle.std.specs.declared.ops.Bound.TheVariants.{Included, Excluded, Unbounded}
use Rattle.sst_base.specs.Entry.{Entry}
use Rattle.sst_block_core.specs.Backs.{GivesStep}
use Rattle.sst_block_core.specs.Entries.{entries}
use Rattle.sst_block_core.specs.Kind.{Kind, IsOrdered}
use Rattle.sst_block_core.specs.Scan.{Scan}
use Rattle.sst_block_core.specs.Window.{Window, Answer, items_left, whole, passes, passes_cmp, count_passed, seek, seek_exclusive, seek_upper, seek_upper_exclusive}
use Rattle.sst_block_core.specs.Handles.{Handle, handles}
use Rattle.sstable_blocks.specs.Scans.{KeyRange, is_before, is_up_to, first_entry, end_entry, within}
use Rattle.sstable_blocks.specs.KeyRangeLaws.{within_between}
use Rattle.sstable_blocks.specs.BoundLaws.{passed_below, passed_up_to, count_none, count_all}

-- what a seek leaves
abbrev FrontAt : Scan Entry → Scan Entry → Bound (List ℕ) → Type 0
FrontAt s t b = t.window ≡ record { list = s.window.list; lo = count_by (λ (x : Entry). is_before b x.key.user_key) s.window.list; hi = s.window.hi }

abbrev BackAt : Scan Entry → Scan Entry → Bound (List ℕ) → Type 0
BackAt s t b = t.window ≡ record { list = s.window.list; lo = s.window.lo; hi = count_by (λ (x : Entry). is_up_to b x.key.user_key) s.window.list }

moved : (s t : Scan Entry) (answer : Answer Entry) (step : Window Entry × Answer Entry) → GivesStep s t answer step → t.window ≡ step.0
moved s t answer step g = ap (λ (q : Window Entry × Answer Entry). q.0) g.step_is

pub front_included : (s t : Scan Entry) (answer : Answer Entry) (k : List ℕ) → GivesStep s t answer (seek entries k s.window) → FrontAt s t (Included k)
front_included s t answer k g = moved s t answer (seek entries k s.window) g ∙ ap (λ n. record { list = s.window.list; lo = n; hi = s.window.hi }) (passed_below entries k s.window.list)

pub front_excluded : (s t : Scan Entry) (answer : Answer Entry) (k : List ℕ) → GivesStep s t answer (seek_exclusive entries k s.window) → FrontAt s t (Excluded k)
front_excluded s t answer k g = moved s t answer (seek_exclusive entries k s.window) g ∙ ap (λ n. record { list = s.window.list; lo = n; hi = s.window.hi }) (passed_up_to entries k s.window.list)

pub front_unbounded : (s : Scan Entry) → s.window.lo ≡ 0 → FrontAt s s Unbounded
front_unbounded s e = ap (λ n. record { list = s.window.list; lo = n; hi = s.window.hi }) (e ∙ sym (count_none s.window.list))

pub back_included : (s t : Scan Entry) (answer : Answer Entry) (k : List ℕ) → GivesStep s t answer (seek_upper entries k s.window) → BackAt s t (Included k)
back_included s t answer k g = moved s t answer (seek_upper entries k s.window) g ∙ ap (λ n. record { list = s.window.list; lo = s.window.lo; hi = n }) (passed_up_to entries k s.window.list)

pub back_excluded : (s t : Scan Entry) (answer : Answer Entry) (k : List ℕ) → GivesStep s t answer (seek_upper_exclusive entries k s.window) → BackAt s t (Excluded k)
back_excluded s t answer k g = moved s t answer (seek_upper_exclusive entries k s.window) g ∙ ap (λ n. record { list = s.window.list; lo = s.window.lo; hi = n }) (passed_below entries k s.window.list)

pub back_unbounded : (s : Scan Entry) → s.window.hi ≡ length s.window.list → BackAt s s Unbounded
back_unbounded s e = ap (λ n. record { list = s.window.list; lo = s.window.lo; hi = n }) (e ∙ sym (count_all s.window.list))

-- bounds seen through references
pub start_is : {A : Type 0} (f : A → List ℕ) (from to v : Bound A) (r : KeyRange) → record { from = bound_map f from; to = bound_map f to } ≡ r → from ≡ v → r.from ≡ bound_map f v
start_is f from to v r view is = sym (ap (λ (x : KeyRange). x.from) view) ∙ ap (bound_map f) is

pub end_is : {A : Type 0} (f : A → List ℕ) (from to v : Bound A) (r : KeyRange) → record { from = bound_map f from; to = bound_map f to } ≡ r → to ≡ v → r.to ≡ bound_map f v
end_is f from to v r view is = sym (ap (λ (x : KeyRange). x.to) view) ∙ ap (bound_map f) is

pub front_by : (s t : Scan Entry) (b v : Bound (List ℕ)) → b ≡ v → FrontAt s t v → FrontAt s t b
front_by s t b v e h = subst (FrontAt s t) (sym e) h

pub back_by : (s t : Scan Entry) (b v : Bound (List ℕ)) → b ≡ v → BackAt s t v → BackAt s t b
back_by s t b v e h = subst (BackAt s t) (sym e) h

-- a block that was cut
pub cut_left : (r : KeyRange) (s t u : Scan Entry) → IsOrdered entries s.window.list → s.window ≡ whole s.window.list
    → t.window ≡ record { list = s.window.list; lo = first_entry r s.window.list; hi = s.window.hi } → u.window ≡ record { list = t.window.list; lo = t.window.lo; hi = end_entry r t.window.list }
    → items_left u.window ≡ within r s.window.list
cut_left r s t u order fresh front back =
    let list : t.window.list ≡ s.window.list = ap (λ (w : Window Entry). w.list) front in
    let lo : t.window.lo ≡ first_entry r s.window.list = ap (λ (w : Window Entry). w.lo) front in
    let now : u.window ≡ record { list = s.window.list; lo = first_entry r s.window.list; hi = end_entry r s.window.list } =
    back ∙ ap (λ (xs : List Entry). record { list = xs; lo = t.window.lo; hi = end_entry r xs }) list ∙ ap (λ n. record { list = s.window.list; lo = n; hi = end_entry r s.window.list }) lo in
    ap items_left now ∙ sym (within_between r s.window.list order)
