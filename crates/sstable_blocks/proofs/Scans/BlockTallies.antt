-- What is counted in a block that was opened.
use Rattle.std.proofs.Common.{◌≡◌, inl, inr, slice_get, ℕ, zero, suc, ◌+◌, ◌-◌, ◌*◌, ◌/◌, ◌%◌, ◌<◌, ◌≤◌, Bool, true, false, cond, eqb, List, length, Option, Some, None, Result, Ok, Err, IfOk, refl, sym, subst, ap, ◌∙◌, arith}
use Rattle.std.specs.Prelude.{◌||◌, MatchResult}
use Rattle.std.specs.Option.{option_map}
use Rattle.std.proofs.Math.Nat.{mod-add-div', le-div_iff_mul-le, div-mul-le_self, mul-le-mul_right}
use Rattle.std.proofs.lemmas.Bool.{cases_Bool, eqb-true, ltb-true, ne_eqb}
use Rattle.std.proofs.lemmas.List.Sums.{count_by-le-length}
use Rattle.sst_base.specs.Counted.{CountsBetween, CountsExactly, IsZero, found_item}
use Rattle.sst_base.specs.Entry.{Entry}
use Rattle.sst_base.specs.declared.error.Error.{Error}
use Rattle.sst_base.specs.declared.error.Error.TheVariants.{Memory}
use Rattle.sst_block_core.specs.Backs.{GivesNextBack, first_of, back_cost}
use Rattle.sst_block_core.specs.Intervals.{digits}
use Rattle.sst_block_core.specs.Pointers.{head_count}
use Rattle.sst_block_core.specs.Scan.{Scan, GivesScanned}
use Rattle.sst_block_core.specs.Window.{Window, Answer, item, found, some_left, last_left, first_left, next, next_back}
use Rattle.sstable_blocks.specs.Scans.{KeyRange, end_entry, is_up_to}
use Rattle.sstable_blocks.specs.Tallies.{AddsTaken, IsUpTo, Tally, again_before, again_in, cut_cost, least_taken, most_taken, scan_tally}

upto_either : (b : Bool) (m k f : ℕ) → (b ≡ true → m ≤ f) → k ≤ f → cond b m k ≤ f
upto_either true m k f h l = h refl
upto_either false m k f h l = l

left_holds : (b c : Bool) → c ≡ false → (b || c) ≡ true → b ≡ true
left_holds true c none e = refl
left_holds false c none e = cc

again_by : (b : Bool) (hi f t : ℕ) → f ≤ hi → t ≤ f → cond b (hi - f) 0 + t ≤ cond b hi f
again_by true hi f t g l = omega arith
again_by false hi f t g l = omega arith

heads_rise : (r m : ℕ) → (m - 1) / r * r ≤ m / r * r
heads_rise zero m = omega arith
heads_rise (suc r) m = mul-le-mul_right (suc r) ((le-div_iff_mul-le (omega arith)).1 (let d = div-mul-le_self (m - 1) (suc r) in omega (arith, d)))

-- a step from the back
again_step : (r n hi : ℕ) → 0 < hi → hi ≤ n → back_cost r n hi + again_before r n (hi - 1) ≤ again_before r n hi
unfolding back_cost first_of
again_step r n hi some inside =
    let d = div-mul-le_self (hi - 1) r in
    again_by (eqb (hi % r) 0 || eqb hi n) hi ((hi - 1) / r * r) _ (omega (arith, d))
    (upto_either (eqb ((hi - 1) % r) 0 || eqb (hi - 1) n) (hi - 1) ((hi - 1 - 1) / r * r) ((hi - 1) / r * r)
    (λ either.
    let head = left_holds (eqb ((hi - 1) % r) 0) (eqb (hi - 1) n) (ne_eqb (hi - 1) n (λ e. omega (arith, e, some, inside))) either in
    let whole = eqb-true ((hi - 1) % r) 0 head in
    let parts = mod-add-div' (hi - 1) r in
    omega (arith, whole, parts))
    (heads_rise r (hi - 1)))

again_most : (b : Bool) (hi f : ℕ) → f ≤ hi → cond b hi f ≤ hi
again_most true hi f h = omega arith
again_most false hi f h = h

again_upto : (r n hi : ℕ) → again_before r n hi ≤ hi
again_upto r n hi = again_most (eqb (hi % r) 0 || eqb hi n) hi ((hi - 1) / r * r) (let d = div-mul-le_self (hi - 1) r in omega (arith, d))

paid_back : (F c a b : ℕ) → F ≤ 1 → c + b ≤ a → F * (1 + c) + b ≤ F + a
paid_back zero c a b h l = omega (arith, l)
paid_back (suc zero) c a b h l = omega (arith, l)
paid_back (suc (suc k)) c a b h l = absurd (omega (arith, h))

found_one : {A : Type 0} (o : Option A) → found_item o ≤ 1
found_one None = omega arith
found_one (Some a) = omega arith

-- what is due, by the window
again_is : (s t : Scan Entry) (w : Window Entry) → t.interval ≡ s.interval → t.window ≡ w → again_in t ≡ again_before s.interval (length w.list) w.hi
again_is s t w e f = ap (λ k. again_before k (length t.window.list) t.window.hi) e ∙ ap (λ (v : Window Entry). again_before s.interval (length v.list) v.hi) f

-- the window after a step, by whether an item is left
front_moved : (w : Window Entry) (b : Bool) → some_left w ≡ b → (next w).0 ≡ cond b (record w { lo = w.lo + 1 }) w
front_moved w b e = ap (λ c. cond c (record w { lo = w.lo + 1 }) w) e

back_moved : (w : Window Entry) (b : Bool) → some_left w ≡ b → (next_back w).0 ≡ cond b (record w { hi = w.hi - 1 }) w
back_moved w b e = ap (λ c. cond c (record w { hi = w.hi - 1 }) w) e

front_again : (s t : Scan Entry) → t.interval ≡ s.interval → t.window ≡ (next s.window).0 → again_in t ≡ again_in s
front_again s t e f = elim (cases_Bool (some_left s.window)) [
  | inl is ↦ again_is s t (record s.window { lo = s.window.lo + 1 }) e (f ∙ front_moved s.window true is)
  | inr done ↦ again_is s t s.window e (f ∙ front_moved s.window false done)
]

-- a step from the front of a block
pub adds_front : (s t : Scan Entry) (F : ℕ) → t.interval ≡ s.interval → t.window ≡ (next s.window).0 → CountsExactly s.steps t.steps 0 F → AddsTaken (scan_tally s) (scan_tally t) F F
adds_front s t F e f counts =
    let a = front_again s t e f in
    let h = counts.heads in
    let n = counts.entries in
    record { heads = omega (arith, h); entries = omega (arith, n); due = omega (arith, n, a) }

-- from its back
pub adds_back : (s t : Scan Entry) (F : ℕ) → F ≤ 1 → s.window.hi ≤ length s.window.list → t.interval ≡ s.interval → t.window ≡ (next_back s.window).0 → (some_left s.window ≡ false → F ≡ 0)
    → CountsBetween s.steps t.steps (0, F) (0, F * (1 + back_cost s.interval (length s.window.list) s.window.hi)) → AddsTaken (scan_tally s) (scan_tally t) F F
adds_back s t F one inside e f none counts =
    let c = back_cost s.interval (length s.window.list) s.window.hi in
    let least = counts.heads_least in
    let most = counts.heads_most in
    let some = counts.entries_least in
    let all = counts.entries_most in
    record {
      heads = omega (arith, least, most);
      entries = omega (arith, some);
      due = elim (cases_Bool (some_left s.window)) [
        | inl is ↦ (
            let less : s.window.lo < s.window.hi = ltb-true s.window.lo s.window.hi is in
            let a = again_is s t (record s.window { hi = s.window.hi - 1 }) e (f ∙ back_moved s.window true is) in
            let p = paid_back F c (again_in s) _ one (again_step s.interval (length s.window.list) s.window.hi (omega (arith, less)) inside) in
            omega (arith, a, p, all))
        | inr done ↦ (
            let a = again_is s t s.window e (f ∙ back_moved s.window false done) in
            let z = none done in
            let p : F * (1 + c) ≡ 0 = ap (λ k. k * (1 + c)) z ∙ omega arith in
            omega (arith, a, p, z, all))
      ];
    }

adds_weaker : (old new : Tally) (F least most : ℕ) → least ≤ F → F ≤ most → AddsTaken old new F F → AddsTaken old new least most
adds_weaker old new F least most l m a =
    let n = a.entries in
    let d = a.due in
    record { heads = a.heads; entries = omega (arith, l, n); due = omega (arith, m, d) }

-- what an item that is made shows
least_of : (result : Result (Option Entry) Error) (o : Option Entry) → IfOk result (λ x. x ≡ o) → least_taken result ≤ found_item o
least_of (Ok x) o e = let k : found_item x ≡ found_item o = ap (λ (y : Option Entry). found_item y) e in omega (arith, k)
least_of (Err e) o k = omega arith

most_of : (result : Result (Option Entry) Error) (o : Option Entry) → IfOk result (λ x. x ≡ o) → found_item o ≤ most_taken result
most_of (Ok x) o e = let k : found_item x ≡ found_item o = ap (λ (y : Option Entry). found_item y) e in omega (arith, k)
most_of (Err e) o k = found_one o

pub made_front : (s t : Scan Entry) (result : Result (Option Entry) Error) → t.interval ≡ s.interval → t.window ≡ (next s.window).0 → IfOk result (λ x. x ≡ first_left s.window)
    → CountsExactly s.steps t.steps 0 (found_item (first_left s.window)) → AddsTaken (scan_tally s) (scan_tally t) (least_taken result) (most_taken result)
made_front s t result e f ok counts =
    let o = first_left s.window in
    adds_weaker (scan_tally s) (scan_tally t) (found_item o) (least_taken result) (most_taken result) (least_of result o ok) (most_of result o ok) (adds_front s t (found_item o) e f counts)

pub made_once : (s t : Scan Entry) (result : Result (Option Entry) Error) → IfOk result (λ x. x ≡ first_left s.window)
    → CountsExactly s.steps t.steps 0 (found_item (first_left s.window)) → (scan_tally t).entries ≤ (scan_tally s).entries + most_taken result
made_once s t result ok counts =
    let m = most_of result (first_left s.window) ok in
    let n = counts.entries in
    omega (arith, m, n)

none_last : (w : Window Entry) → some_left w ≡ false → found_item (last_left w) ≡ 0
none_last w e = ap (λ b. found_item (cond b (slice_get w.list (w.hi - 1)) None)) e

pub made_back : (s t : Scan Entry) (result : Result (Option Entry) Error) → s.window.hi ≤ length s.window.list → t.interval ≡ s.interval → t.window ≡ (next_back s.window).0 → IfOk result (λ x. x ≡ last_left s.window)
    → CountsBetween s.steps t.steps (0, found_item (last_left s.window)) (0, found_item (last_left s.window) * (1 + back_cost s.interval (length s.window.list) s.window.hi))
    → AddsTaken (scan_tally s) (scan_tally t) (least_taken result) (most_taken result)
made_back s t result inside e f ok counts =
    let o = last_left s.window in
    adds_weaker (scan_tally s) (scan_tally t) (found_item o) (least_taken result) (most_taken result) (least_of result o ok) (most_of result o ok)
    (adds_back s t (found_item o) (found_one o) inside e f (none_last s.window) counts)

-- the answer of a step
abbrev answered : Answer Entry → Option Entry
answered (item o) = o
answered (found b) = None

module _ {P : Type 0} (item_of : List ℕ → P → Entry) (is_found : List ℕ → P → Type 0) (s t : Scan Entry) where
  pub view_front : (r : Option P) → GivesScanned item_of is_found s r t → AddsTaken (scan_tally s) (scan_tally t) (found_item r) (found_item r)
  view_front r g = adds_front s t (found_item r) g.interval (ap (λ (q : Window Entry × Answer Entry). q.0) g.step) g.counts

  mapped : (r : Option P) (f : P → Entry) → found_item r ≡ found_item (option_map f r)
  mapped None f = refl
  mapped (Some p) f = refl

  pub view_back : (r : Option P) → GivesNextBack item_of is_found s r t → AddsTaken (scan_tally s) (scan_tally t) (found_item r) (found_item r)
  view_back r g = adds_back s t (found_item r) (found_one r) g.within g.interval (ap (λ (q : Window Entry × Answer Entry). q.0) g.step)
      (λ done. mapped r (item_of s.payload) ∙ ap (λ (q : Window Entry × Answer Entry). found_item (answered q.1)) g.step ∙ none_last s.window done) g.counts

-- an entry that was taken is counted, whether or not it was made
pub made_view : (s t : Tally) (x : Entry) (result : Result (Option Entry) Error) → MatchResult result (λ o. o ≡ Some x) (λ e. e ≡ Memory) → AddsTaken s t 1 1 → AddsTaken s t (least_taken result) (most_taken result)
made_view s t x (Ok o) is a = subst (λ (p : Option Entry). AddsTaken s t (least_taken (Ok p)) (most_taken (Ok p))) (sym is) a
made_view s t x (Err e) is a = record { heads = a.heads; entries = (let n = a.entries in omega (arith, n)); due = a.due }

-- cutting a block by both bounds
pub cut_costs : (r : KeyRange) (s t u : Scan Entry) (lo : ℕ) → IsZero s.steps → t.interval ≡ s.interval → u.interval ≡ t.interval → t.window ≡ record s.window { lo = lo } → u.window ≡ record t.window { hi = end_entry r t.window.list }
    → CountsBetween s.steps t.steps (0, 0) (digits (head_count s.interval (length s.window.list)), s.interval + 1)
    → CountsBetween t.steps u.steps (0, 0) (digits (head_count t.interval (length t.window.list)), 2 * t.interval + 2)
    → IsUpTo (scan_tally u) (cut_cost s.interval (length s.window.list))
cut_costs r s t u lo fresh e f front back first second =
    let list : t.window.list ≡ s.window.list = ap (λ (w : Window Entry). w.list) front in
    let n : length t.window.list ≡ length s.window.list = ap (λ (xs : List Entry). length xs) list in
    let heads : digits (head_count t.interval (length t.window.list)) ≡ digits (head_count s.interval (length s.window.list)) = ap (λ k. digits (head_count k (length t.window.list))) e ∙ ap (λ k. digits (head_count s.interval k)) n in
    let again = again_is t u (record t.window { hi = end_entry r t.window.list }) f back in
    let upto = again_upto t.interval (length t.window.list) (end_entry r t.window.list) in
    let most : end_entry r t.window.list ≤ length t.window.list = count_by-le-length (λ (x : Entry). is_up_to r.to x.key.user_key) t.window.list in
    let a = fresh.heads in
    let b = fresh.entries in
    let c = first.heads_most in
    let d = first.entries_most in
    let h = second.heads_most in
    let k = second.entries_most in
    record {
      heads = omega (arith, a, c, h, heads);
      entries = omega (arith, b, d, k, e);
      due = omega (arith, b, d, k, e, n, again, upto, most);
    }
