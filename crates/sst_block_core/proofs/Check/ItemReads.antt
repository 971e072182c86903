-- Reading a body an item at a time.
use Rattle.std.proofs.Common.{◌≡◌, ℕ, zero, suc, ◌+◌, ◌%◌, ◌<◌, ◌≤◌, cond, eqb, true, false, List, [], ◌∷◌, ◌++◌, length, drop, Some, None, refl, sym, ap, subst, ◌∙◌, arith, length-append, length-drop}
use Rattle.std.proofs.lemmas.List.{length_push}
use Rattle.std.proofs.lemmas.Bool.{eq-eqb, ne_eqb}
use Rattle.sst_base.specs.Bytes.{IsBytes}
use Rattle.sst_base.specs.ReadingLaws.{bind_some, pair_parts}
use Rattle.sst_block_core.specs.Kind.{Kind, IsKind}
use Rattle.sst_block_core.specs.Body.{body, item_at, items_at}
use Rattle.sst_block_core.specs.Passes.{base_after, IsReadUpto}
use Rattle.sst_block_core.specs.BodyLaws.{body_takes}
use Rattle.sst_base.specs.TestLaws.{some_is}

module _ {X : Type 0} (kind : Kind X) (r : ℕ) where
  -- one item more
  more_from : (n s place : ℕ) (base bytes : List ℕ) (xs : List X) (mid : List ℕ) (x : X) (rest : List ℕ) → items_at kind r s n base bytes ≡ Some (xs, mid) → place ≡ s + n
      → item_at kind r place (base_after kind r s xs base) mid ≡ Some (x, rest) → items_at kind r s (suc n) base bytes ≡ Some (xs ++ x ∷ [], rest)
  unfolding items_at
  more_from zero s place base bytes xs mid x rest e p h =
      let q : ◌≡◌ {A = List X × List ℕ} ([], bytes) (xs, mid) = some_is ([], bytes) (xs, mid) e in
      let parts = pair_parts [] xs bytes mid q in
      let place_is : s ≡ place = omega arith in
      let g : item_at kind r s base bytes ≡ Some (x, rest) = (λ i. item_at kind r (place_is i) (base_after kind r s (parts.0 i) base) (parts.1 i)) ∙ h in
      rw g (ap (λ ys. Some (ys ++ x ∷ [], rest)) parts.0)
  more_from (suc n) s place base bytes xs mid x rest e p h =
      let f = bind_some (item_at kind r s base bytes) _ (xs, mid) e in
      let next = cond (eqb (s % r) 0) (kind.key f.0.0) base in
      let g = bind_some (items_at kind r (s + 1) n next f.0.1) _ (xs, mid) f.2 in
      let q : ◌≡◌ {A = List X × List ℕ} (f.0.0 ∷ g.0.0, g.0.1) (xs, mid) = some_is (f.0.0 ∷ g.0.0, g.0.1) (xs, mid) g.2 in
      let parts = pair_parts (f.0.0 ∷ g.0.0) xs g.0.1 mid q in
      let h1 : item_at kind r place (base_after kind r (s + 1) g.0.0 next) g.0.1 ≡ Some (x, rest) = (λ i. item_at kind r place (base_after kind r s (parts.0 i) base) (parts.1 i)) ∙ h in
      let again = more_from n (s + 1) place next f.0.1 g.0.0 g.0.1 x rest g.1 (omega arith) h1 in
      rw (f.1, again) (ap (λ ys. Some (ys ++ x ∷ [], rest)) parts.0)

  -- no more than this many items
  stop_from : (n s place : ℕ) (base bytes : List ℕ) (xs : List X) (mid : List ℕ) → items_at kind r s n base bytes ≡ Some (xs, mid) → place ≡ s + n
      → item_at kind r place (base_after kind r s xs base) mid ≡ None → (m : ℕ) → n < m → items_at kind r s m base bytes ≡ None
  unfolding items_at
  stop_from n s place base bytes xs mid e p h zero l = absurd (omega arith)
  stop_from zero s place base bytes xs mid e p h (suc m) l =
      let q : ◌≡◌ {A = List X × List ℕ} ([], bytes) (xs, mid) = some_is ([], bytes) (xs, mid) e in
      let parts = pair_parts [] xs bytes mid q in
      let place_is : s ≡ place = omega arith in
      let g : item_at kind r s base bytes ≡ None = (λ i. item_at kind r (place_is i) (base_after kind r s (parts.0 i) base) (parts.1 i)) ∙ h in
      rw g refl
  stop_from (suc n) s place base bytes xs mid e p h (suc m) l =
      let f = bind_some (item_at kind r s base bytes) _ (xs, mid) e in
      let next = cond (eqb (s % r) 0) (kind.key f.0.0) base in
      let g = bind_some (items_at kind r (s + 1) n next f.0.1) _ (xs, mid) f.2 in
      let q : ◌≡◌ {A = List X × List ℕ} (f.0.0 ∷ g.0.0, g.0.1) (xs, mid) = some_is (f.0.0 ∷ g.0.0, g.0.1) (xs, mid) g.2 in
      let parts = pair_parts (f.0.0 ∷ g.0.0) xs g.0.1 mid q in
      let h1 : item_at kind r place (base_after kind r (s + 1) g.0.0 next) g.0.1 ≡ None = (λ i. item_at kind r place (base_after kind r s (parts.0 i) base) (parts.1 i)) ∙ h in
      let again = stop_from n (s + 1) place next f.0.1 g.0.0 g.0.1 g.1 (omega arith) h1 m (omega arith) in
      rw (f.1, again) refl

  base_push : (s : ℕ) (xs : List X) (x : X) (base : List ℕ) → base_after kind r s (xs ++ x ∷ []) base ≡ cond (eqb ((s + length xs) % r) 0) (kind.key x) (base_after kind r s xs base)
  base_push s [] x base = let e : s ≡ s + 0 = omega arith in ap (λ k. cond (eqb (k % r) 0) (kind.key x) base) e
  base_push s (y ∷ xs) x base =
      let next = cond (eqb (s % r) 0) (kind.key y) base in
      let e : (s + 1) + length xs ≡ s + suc (length xs) = omega arith in
      base_push (s + 1) xs x next ∙ ap (λ k. cond (eqb (k % r) 0) (kind.key x) (base_after kind r (s + 1) xs next)) e

  -- a pass begins
  pub read_none : (bytes base : List ℕ) → base ≡ [] → IsReadUpto kind r bytes [] 0 0 base
  unfolding items_at
  read_none bytes base e = record { count = refl; inside = omega arith; reads = refl; base_is = e }

  module _ (bytes : List ℕ) (xs : List X) (place offset : ℕ) (base : List ℕ) (at : IsReadUpto kind r bytes xs place offset base) where
    item_more : (x : X) (end : ℕ) → end ≤ length bytes → item_at kind r place base (drop offset bytes) ≡ Some (x, drop end bytes) → items_at kind r 0 (place + 1) [] bytes ≡ Some (xs ++ x ∷ [], drop end bytes)
    item_more x end inside h =
        let e : suc place ≡ place + 1 = omega arith in
        subst (λ n. items_at kind r 0 n [] bytes ≡ Some (xs ++ x ∷ [], drop end bytes)) e
        (more_from place 0 place [] bytes xs (drop offset bytes) x (drop end bytes) at.reads (omega arith) (ap (λ b. item_at kind r place b (drop offset bytes)) (sym at.base_is) ∙ h))

    count_more : (x : X) → place + 1 ≡ length (xs ++ x ∷ [])
    count_more x = let c = at.count in omega (arith, length_push xs x)

    base_more : (x : X) → base_after kind r 0 (xs ++ x ∷ []) [] ≡ cond (eqb (place % r) 0) (kind.key x) base
    base_more x =
        let e : 0 + length xs ≡ place = let c = at.count in omega arith in
        base_push 0 xs x [] ∙ ap (λ k. cond (eqb (k % r) 0) (kind.key x) (base_after kind r 0 xs [])) e ∙ ap (cond (eqb (place % r) 0) (kind.key x)) (sym at.base_is)

    -- a pass over a head
    pub read_head : (x : X) (end : ℕ) (next : List ℕ) → place % r ≡ 0 → end ≤ length bytes → kind.full_at (drop offset bytes) ≡ Some (x, drop end bytes) → next ≡ kind.key x
        → IsReadUpto kind r bytes (xs ++ x ∷ []) (place + 1) end next
    read_head x end next z inside h e =
        let yes : eqb (place % r) 0 ≡ true = eq-eqb (place % r) 0 z in
        record {
          count = count_more x;
          inside = inside;
          reads = item_more x end inside (ap (λ t. cond t (kind.full_at (drop offset bytes)) (kind.truncated_at base (drop offset bytes))) yes ∙ h);
          base_is = e ∙ sym (base_more x ∙ ap (λ t. cond t (kind.key x) base) yes);
        }

    -- over another place
    pub read_rest : (x : X) (end : ℕ) → (place % r ≡ 0 → ⊥) → end ≤ length bytes → kind.truncated_at base (drop offset bytes) ≡ Some (x, drop end bytes)
        → IsReadUpto kind r bytes (xs ++ x ∷ []) (place + 1) end base
    read_rest x end n inside h =
        let no : eqb (place % r) 0 ≡ false = ne_eqb (place % r) 0 n in
        record {
          count = count_more x;
          inside = inside;
          reads = item_more x end inside (ap (λ t. cond t (kind.full_at (drop offset bytes)) (kind.truncated_at base (drop offset bytes))) no ∙ h);
          base_is = sym (base_more x ∙ ap (λ t. cond t (kind.key x) base) no);
        }

    stop : item_at kind r place base (drop offset bytes) ≡ None → (m : ℕ) → place < m → items_at kind r 0 m [] bytes ≡ None
    stop h = stop_from place 0 place [] bytes xs (drop offset bytes) at.reads (omega arith) (ap (λ b. item_at kind r place b (drop offset bytes)) (sym at.base_is) ∙ h)

    pub stop_head : place % r ≡ 0 → kind.full_at (drop offset bytes) ≡ None → (m : ℕ) → place < m → items_at kind r 0 m [] bytes ≡ None
    stop_head z h = stop (ap (λ t. cond t (kind.full_at (drop offset bytes)) (kind.truncated_at base (drop offset bytes))) (eq-eqb (place % r) 0 z) ∙ h)

    pub stop_rest : (place % r ≡ 0 → ⊥) → kind.truncated_at base (drop offset bytes) ≡ None → (m : ℕ) → place < m → items_at kind r 0 m [] bytes ≡ None
    stop_rest n h = stop (ap (λ t. cond t (kind.full_at (drop offset bytes)) (kind.truncated_at base (drop offset bytes))) (ne_eqb (place % r) 0 n) ∙ h)

    -- the offset of a pass is where the forms of the items read end
    pub read_offset : (valid : X → Type 0) → IsKind kind valid → 0 < r → IsBytes bytes → offset ≡ length (body kind r xs)
    read_offset valid laws pos b =
        let t = body_takes kind r pos valid laws xs place bytes (drop offset bytes) b at.reads in
        let l = ap length t.0 ∙ length-append (body kind r xs) (drop offset bytes) in
        let i = at.inside in
        omega (arith, l, length-drop offset bytes)
