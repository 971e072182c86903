-- A pass over items, one item more.
use Rattle.std.proofs.Common.{◌≡◌, ◌≢◌, ◌↔◌, ℕ, ◌+◌, ◌*◌, ◌/◌, ◌%◌, ◌<◌, ◌≤◌, ◌&&◌, Bool, true, false, IsTrue, IfSome, List, [], ◌∷◌, ◌++◌, length, drop, get_or, Option, Some, None, refl, sym, ap, subst, ◌∙◌, arith, inl, inr, length-drop}
use Rattle.std.specs.List.{AllByRecursion}
use Rattle.std.specs.Ordering.{nat_cmp, ordering_then}
use Rattle.std.specs.Cmp.Lexicographic.{slice_cmp}
use Rattle.std.specs.declared.cmp.Ordering.{Ordering}
use Rattle.std.specs.declared.cmp.Ordering.TheVariants.{Less}
use Rattle.std.proofs.lemmas.Bool.{cases_lt}
use Rattle.std.proofs.lemmas.List.{length_push, take_all, at_drop_all}
use Rattle.std.proofs.lemmas.Nat.{mod-mul-add}
use Rattle.std.proofs.Math.Nat.{mul-mod_left, mul-div_cancel_left}
use Rattle.sst_base.specs.Bytes.{IsBytes}
use Rattle.sst_base.specs.Order.{IsInOrder}
use Rattle.sst_base.specs.ReadingLaws.{pair_parts}
use Rattle.sst_block_core.specs.Kind.{Kind, IsKind, item_cmp}
use Rattle.sst_block_core.specs.Body.{body, items_at, place_offset}
use Rattle.sst_block_core.specs.KeyRanges.{key_by, IsKeyRanges, version_cmp, IsVersion, IsLast, least_version}
use Rattle.sst_block_core.specs.Passes.{last_passed, IsReadUpto, ArePointed, IsAlong, HasNoHead}
use Rattle.sst_base.specs.declared.table.util.SliceIndexes.{SliceIndexes}
use Rattle.sst_block_core.specs.Found.{range_bytes}
use Rattle.sst_block_core.specs.declared.table.block.check.keys.KeyVersion.{KeyVersion}
use Rattle.sst_block_core.specs.declared.table.block.check.pass.PassState.{PassState}
use Rattle.sst_block_core.proofs.Check.KeyOrders.{not_before}
use Rattle.sst_block_core.proofs.Check.ItemReads.{read_offset, read_none}
use Rattle.sst_block_core.proofs.Items.BackCosts.{first_head}
use Rattle.sst_block_core.proofs.Writing.Written.{place_same}

last_push : {X : Type 0} (xs : List X) (x : X) → last_passed (xs ++ x ∷ []) ≡ Some x
last_push [] x = refl
last_push (y ∷ []) x = refl
last_push (y ∷ z ∷ ys) x = last_push (z ∷ ys) x

pub no_last : {X : Type 0} (xs : List X) → None ≡ last_passed xs → xs ≡ []
no_last [] e = refl
no_last (x ∷ []) e = cc
no_last (x ∷ y ∷ xs) e = let r = no_last (y ∷ xs) e in cc

pub both : (a b : Bool) → (IsTrue a × IsTrue b → IsTrue (a && b)) × (IsTrue (a && b) → IsTrue a × IsTrue b)
both true b = ((λ h. h.1), (λ h. (refl, h)))
both false b = ((λ h. cc (h.0)), (λ h. cc))

module _ {X : Type 0} (cmp : X → X → Ordering) where
  -- one item more keeps the order exactly if it doesn't sort before the last
  pub order_more : (xs : List X) (l x : X) → Some l ≡ last_passed xs → (IsInOrder cmp xs × (cmp x l ≢ Less)) ↔ IsInOrder cmp (xs ++ x ∷ [])
  order_more [] l x e = cc
  order_more (y ∷ []) l x e =
      let s : l ≡ y = cc in
      ((λ h. (subst (λ z. cmp x z ≢ Less) s h.1, tt)), (λ h. (tt, subst (λ z. cmp x z ≢ Less) (sym s) h.0)))
  order_more (y ∷ z ∷ ys) l x e =
      let r = order_more (z ∷ ys) l x e in
      ((λ h. (h.0.0, r.0 (h.0.1, h.1))), (λ h. let g = r.1 h.1 in ((h.0, g.0), g.1)))

  pub order_push : (xs : List X) (x : X) (last : Option X) (o t : Bool) → last ≡ last_passed xs → IsTrue o ↔ IsInOrder cmp xs → IsTrue t ↔ IfSome last (λ l. cmp x l ≢ Less)
      → IsTrue (o && t) ↔ IsInOrder cmp (xs ++ x ∷ [])
  order_push xs x None o t e so_far keeps =
      let z = no_last xs e in
      let none : IsInOrder cmp xs = subst (IsInOrder cmp) (sym z) tt in
      let one : IsInOrder cmp (xs ++ x ∷ []) = subst (λ ys. IsInOrder cmp (ys ++ x ∷ [])) (sym z) tt in
      ((λ h. one), (λ h. (both o t).0 (so_far.1 none, keeps.1 tt)))
  order_push xs x (Some l) o t e so_far keeps =
      let m = order_more xs l x e in (
        (λ h. let g = (both o t).1 h in m.0 (so_far.0 g.0, keeps.0 g.1)),
        (λ h. let g = m.1 h in (both o t).0 (so_far.1 g.0, keeps.1 g.1)),
      )

-- one item more fits exactly if all do
all_more : {X : Type 0} (fits : X → Type 0) (xs : List X) (x : X) → (AllByRecursion fits xs × fits x) ↔ AllByRecursion fits (xs ++ x ∷ [])
all_more fits [] x = ((λ h. (h.1, tt)), (λ h. (tt, h.0)))
all_more fits (y ∷ ys) x =
    let r = all_more fits ys x in
    ((λ h. (h.0.0, r.0 (h.0.1, h.1))), (λ h. let g = r.1 h.1 in ((h.0, g.0), g.1)))

fit_push : {X : Type 0} (fits : X → Type 0) (xs : List X) (x : X) (o t : Bool) → IsTrue o ↔ AllByRecursion fits xs → IsTrue t ↔ fits x → IsTrue (o && t) ↔ AllByRecursion fits (xs ++ x ∷ [])
fit_push fits xs x o t so_far here =
    let m = all_more fits xs x in (
      (λ h. let g = (both o t).1 h in m.0 (so_far.0 g.0, here.0 g.1)),
      (λ h. let g = m.1 h in (both o t).0 (so_far.1 g.0, here.1 g.1)),
    )

module _ {X : Type 0} (kind : Kind X) (r : ℕ) (pos : 0 < r) (pointers : List ℕ) where
  place_last : (xs : List X) → place_offset kind r xs (length xs) ≡ length (body kind r xs)
  place_last xs = ap (λ ys. length (body kind r ys)) (take_all (length xs) xs (omega arith))

  pub pointed_push : (xs : List X) (x : X) (place phase offset : ℕ) (o t : Bool) → phase ≡ place % r → place ≡ length xs → offset ≡ length (body kind r xs)
      → IsTrue o ↔ ArePointed kind r pointers xs → IsTrue t ↔ (phase ≡ 0 → get_or pointers (place / r) 0 ≡ offset)
      → IsTrue (o && t) ↔ ArePointed kind r pointers (xs ++ x ∷ [])
  pointed_push xs x place phase offset o t in_row n e so_far here =
      let l = length_push xs x in (
        (λ h. let g = (both o t).1 h in λ j below. elim (cases_lt (j * r) (length xs)) [
          | inl old ↦ so_far.0 g.0 j old ∙ sym (place_same kind r xs x (j * r) (omega arith))
          | inr new ↦ (
              let same : j * r ≡ place = omega (arith, l, below, new, n) in
              let z : place % r ≡ 0 = ap (λ k. k % r) (sym same) ∙ mul-mod_left j r in
              let turned : place ≡ r * j = omega (arith, same) in
              let q : place / r ≡ j = ap (λ k. k / r) turned ∙ mul-div_cancel_left j pos in
              ap (λ k. get_or pointers k 0) (sym q) ∙ here.0 g.1 (in_row ∙ z) ∙ e ∙ sym (place_last xs) ∙ ap (place_offset kind r xs) (sym (same ∙ n))
              ∙ sym (place_same kind r xs x (j * r) (omega (arith, same, n))))
        ]),
        (λ all. (both o t).0 (
          so_far.1 (λ j old. all j (omega (arith, l, old)) ∙ place_same kind r xs x (j * r) (omega arith)),
          here.1 (λ z.
              let q = first_head r place (sym in_row ∙ z) in
              all (place / r) (omega (arith, l, q, n)) ∙ ap (place_offset kind r (xs ++ x ∷ [])) (q ∙ n) ∙ place_same kind r xs x (length xs) (omega arith) ∙ place_last xs ∙ sym e),
        )),
      )

and_true : (a : Bool) → (a && true) ≡ a
and_true true = refl
and_true false = refl

-- the order by what is kept of the last item is that of the items
pub keeps_by : {X : Type 0} (kind : Kind X) (bytes : List ℕ) (last : KeyVersion) (y : Option X) (v : KeyVersion) (x : X) (t : Bool) → v.seqno ≤ 18446744073709551615 → IsLast kind bytes last y → IsVersion kind bytes x v
    → IsTrue t ↔ (version_cmp bytes v last ≢ Less) → IsTrue t ↔ IfSome y (λ l. item_cmp kind x l ≢ Less)
keeps_by kind bytes l None v x t small seen is keeps =
    let k : IsTrue t ↔ (version_cmp bytes v least_version ≢ Less) = subst (λ w. IsTrue t ↔ (version_cmp bytes v w ≢ Less)) seen keeps in
    ((λ h. tt), (λ h. k.1 (not_before (key_by bytes v.key) 18446744073709551615 v.seqno small)))
keeps_by kind bytes l (Some y) v x t small seen is keeps =
    let e : version_cmp bytes v l ≡ item_cmp kind x y = (λ i. ordering_then (slice_cmp nat_cmp (sym is.key i) (sym seen.key i)) (nat_cmp (sym seen.seqno i) (sym is.seqno i))) in
    subst (λ o. IsTrue t ↔ (o ≢ Less)) e keeps

-- and its key lies in the bytes
pub last_ranges : {X : Type 0} (kind : Kind X) (bytes : List ℕ) (last : KeyVersion) (y : Option X) → IsLast kind bytes last y → IsKeyRanges bytes last.key
last_ranges kind bytes l None seen =
    let least : IsKeyRanges bytes least_version.key = record { prefix = record { order = omega arith; inside = omega arith }; rest = record { order = omega arith; inside = omega arith } } in
    subst (λ w. IsKeyRanges bytes w.key) (sym seen) least
last_ranges kind bytes l (Some y) seen = seen.ranges

module _ {X : Type 0} (kind : Kind X) (valid fits : X → Type 0) (laws : IsKind kind valid) (r : ℕ) (pos : 0 < r) (bytes pointers : List ℕ) (b : IsBytes bytes) where
  -- a pass begins
  pub along_none : (last : KeyVersion) → last ≡ least_version
      → IsAlong kind fits r bytes pointers [] (record { 0 = 0; 1 = 0 }) (record { offset = 0; last = last; passed = record { all_fit = true; is_ordered = true; is_indexed = true } })
  along_none last e = record {
    read = read_none kind r bytes [] refl;
    last_is = e;
    judged = record { fit = ((λ _. tt), (λ _. refl)); ordered = ((λ _. tt), (λ _. refl)); indexed = ((λ _. λ j h. absurd (omega (arith, h))), (λ _. refl)) };
  }

  module _ (xs : List X) (base : SliceIndexes) (from : PassState) (k : IsAlong kind fits r bytes pointers xs base from) (x : X) (v : KeyVersion) (offset : ℕ) (s t : Bool)
      (small : v.seqno ≤ 18446744073709551615) (version : IsVersion kind bytes x v) (fit : IsTrue s ↔ fits x) (keeps : IsTrue t ↔ (version_cmp bytes v from.last ≢ Less)) where
    -- an item more
    pub along_head : (next : SliceIndexes) (u : Bool) → IsReadUpto kind r bytes (xs ++ x ∷ []) (length xs + 1) offset (range_bytes bytes next)
        → IsTrue u ↔ (length xs % r ≡ 0 → get_or pointers (length xs / r) 0 ≡ from.offset)
        → IsAlong kind fits r bytes pointers (xs ++ x ∷ []) next (record { offset = offset; last = v; passed = record { all_fit = from.passed.all_fit && s; is_ordered = from.passed.is_ordered && t; is_indexed = from.passed.is_indexed && u } })
    along_head next u read here = record {
      read = subst (λ n. IsReadUpto kind r bytes (xs ++ x ∷ []) n offset (range_bytes bytes next)) read.count read;
      last_is = subst (IsLast kind bytes v) (sym (last_push xs x)) version;
      judged = record {
        fit = fit_push fits xs x from.passed.all_fit s k.judged.fit fit;
        ordered = order_push (item_cmp kind) xs x (last_passed xs) from.passed.is_ordered t refl k.judged.ordered (keeps_by kind bytes from.last (last_passed xs) v x t small k.last_is version keeps);
        indexed = pointed_push kind r pos pointers xs x (length xs) (length xs % r) from.offset from.passed.is_indexed u refl refl (read_offset kind r bytes xs (length xs) from.offset (range_bytes bytes base) k.read valid laws pos b) k.judged.indexed here;
      };
    }

    -- one that is no head
    pub along_rest : (length xs % r ≡ 0 → ⊥) → IsReadUpto kind r bytes (xs ++ x ∷ []) (length xs + 1) offset (range_bytes bytes base)
        → IsAlong kind fits r bytes pointers (xs ++ x ∷ []) base (record { offset = offset; last = v; passed = record { all_fit = from.passed.all_fit && s; is_ordered = from.passed.is_ordered && t; is_indexed = from.passed.is_indexed } })
    along_rest rest read =
        subst (λ i. IsAlong kind fits r bytes pointers (xs ++ x ∷ []) base (record { offset = offset; last = v; passed = record { all_fit = from.passed.all_fit && s; is_ordered = from.passed.is_ordered && t; is_indexed = i } }))
        (and_true from.passed.is_indexed) (along_head base true read ((λ h. λ z. absurd (rest z)), (λ h. refl)))

-- a head's place is the number of its interval times its length
pub head_place : (r number n : ℕ) → 0 < r → n ≡ number * r → (n % r ≡ 0) × (n / r ≡ number)
head_place r number n pos e =
    let turned : n ≡ r * number = omega (arith, e) in
    (ap (λ k. k % r) e ∙ mul-mod_left number r, ap (λ k. k / r) turned ∙ mul-div_cancel_left number pos)

-- after it there are no heads
pub no_heads : (r number n len : ℕ) → 0 < r → n ≡ number * r → len + 1 ≤ r → HasNoHead r (n + 1) len
no_heads r number n len pos e few k below z =
    let e2 : n + 1 + k ≡ number * r + (k + 1) = omega (arith, e) in
    let m : (n + 1 + k) % r ≡ k + 1 = ap (λ j. j % r) e2 ∙ mod-mul-add number r (k + 1) (omega arith) in
    omega (arith, m, z)

some_parts : {A B : Type 0} (a x : A) (b y : B) → ◌≡◌ {A = Option (A × B)} (Some (a, b)) (Some (x, y)) → b ≡ y
some_parts a x b y e = let s : ◌≡◌ {A = _ × _} (a, b) (x, y) = cc in (pair_parts a x b y s).1

-- what is left over is no body
pub not_filled : {X : Type 0} (kind : Kind X) (r n : ℕ) (bytes : List ℕ) (xs : List X) (offset : ℕ) → items_at kind r 0 n [] bytes ≡ Some (xs, drop offset bytes) → offset ≤ length bytes → offset ≢ length bytes
    → (ys : List X) → items_at kind r 0 n [] bytes ≡ Some (ys, []) → ⊥
not_filled kind r n bytes xs offset reads inside ne ys e =
    let s : drop offset bytes ≡ [] = some_parts xs ys (drop offset bytes) [] (sym reads ∙ e) in
    let l = ap length s in
    ne (omega (arith, l, length-drop offset bytes))

-- what is read to the end is the whole
pub read_whole : {X : Type 0} (kind : Kind X) (r n : ℕ) (bytes : List ℕ) (xs ys : List X) (rest : List ℕ) → items_at kind r 0 n [] bytes ≡ Some (xs, rest) → items_at kind r 0 n [] bytes ≡ Some (ys, []) → xs ≡ ys
read_whole kind r n bytes xs ys rest e f =
    let s : ◌≡◌ {A = Option (List _ × List ℕ)} (Some (xs, rest)) (Some (ys, [])) = sym e ∙ f in
    let q : ◌≡◌ {A = List _ × List ℕ} (xs, rest) (ys, []) = cc in
    (pair_parts xs ys rest [] q).0

-- and nothing is left of it there
pub read_to_end : {X : Type 0} (kind : Kind X) (r n : ℕ) (bytes : List ℕ) (xs : List X) (offset : ℕ) → items_at kind r 0 n [] bytes ≡ Some (xs, drop offset bytes) → offset ≡ length bytes → items_at kind r 0 n [] bytes ≡ Some (xs, [])
read_to_end kind r n bytes xs offset reads e = reads ∙ at_drop_all (λ ys. Some (xs, ys)) bytes offset (omega (arith, e))
