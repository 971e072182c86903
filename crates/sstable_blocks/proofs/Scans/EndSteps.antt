-- A step of a scan, seen_from from an end.
use Rattle.std.proofs.Common.{◌≡◌, inl, inr, ℕ, zero, suc, ◌+◌, ◌-◌, ◌*◌, ◌<◌, ◌≤◌, Bool, true, false, nat_lt, List, [], ◌∷◌, ◌++◌, length, map, reverse, drop, Option, Some, None, Ok, Err, refl, sym, ap, subst, ◌∙◌, arith}
use Rattle.std.proofs.lemmas.List.{reverse-append, append_assoc, append-nil, length-reverse, map-append, reverse-reverse}
use Rattle.std.proofs.lemmas.Bool.{ltb-false}
use Rattle.std.specs.Iterator.{YieldsFirst}
use Rattle.std.specs.List.{AllByRecursion}
use Rattle.std.specs.Prelude.{IfSome, Result}
use Rattle.sstable_blocks.specs.BlockReading.{Reading, AreBlocks, AllAdmitted, Opens, seen_from, TakesEnd}
use Rattle.sstable_blocks.specs.Ends.{AreEnds, Ends, GivesNext, IsFewer, IsReady, TakesNear, hi_at, index_at, lo_at, most_left, reads_between, reads_from, reads_left}
use Rattle.sstable_blocks.specs.Scans.{reads_of}
use Rattle.sst_base.specs.declared.error.Error.{Error}
use Rattle.sst_block_core.specs.ListLaws.{push_reverse, all_reverse}
use Rattle.sst_block_core.specs.ListLaws.{all_drop}

-- ---- lists seen_from from an end
reverse_map : {X Y : Type 0} (f : X → Y) (xs : List X) → reverse (map f xs) ≡ map f (reverse xs)
reverse_map f [] = refl
reverse_map f (x ∷ xs) =
    push_reverse (f x) (map f xs) ∙ ap (λ ys. ys ++ f x ∷ []) (reverse_map f xs) ∙ sym (map-append f (reverse xs) (x ∷ [])) ∙ ap (map f) (sym (push_reverse x xs))

seen_map : {X Y : Type 0} (b : Bool) (f : X → Y) (xs : List X) → seen_from b (map f xs) ≡ map f (seen_from b xs)
seen_map true f xs = reverse_map f xs
seen_map false f xs = refl

seen_twice : {X : Type 0} (b : Bool) (xs : List X) → seen_from b (seen_from b xs) ≡ xs
seen_twice true xs = reverse-reverse xs
seen_twice false xs = refl

seen_length : {X : Type 0} (b : Bool) (xs : List X) → length (seen_from b xs) ≡ length xs
seen_length true xs = length-reverse xs
seen_length false xs = refl

all_seen : {X : Type 0} (b : Bool) (P : X → Type 0) (xs : List X) → AllByRecursion P xs → AllByRecursion P (seen_from b xs)
all_seen true P xs a = all_reverse P xs a
all_seen false P xs a = a

-- what is left is such as all were
all_rest : {X : Type 0} (b : Bool) (P : X → Type 0) (xs ys : List X) → seen_from b ys ≡ drop 1 (seen_from b xs) → AllByRecursion P xs → AllByRecursion P ys
all_rest b P xs ys e a = subst (AllByRecursion P) (seen_twice b ys) (all_seen b P (seen_from b ys) (subst (AllByRecursion P) (sym e) (all_drop P 1 (seen_from b xs) (all_seen b P xs a))))

pub seen_nil : {X : Type 0} (b : Bool) → seen_from {X = X} b [] ≡ []
seen_nil true = refl
seen_nil false = refl

-- ---- the blocks at an end
reads_push : {X : Type 0} (f : ℕ → Result (List X) Error) (lo n : ℕ) → reads_from f lo (suc n) ≡ reads_from f lo n ++ reads_of (f (lo + n))
reads_push f lo zero =
    let z : lo ≡ lo + 0 = omega arith in
    append-nil (reads_of (f lo)) ∙ ap (λ i. reads_of (f i)) z
reads_push f lo (suc n) =
    let z : suc lo + n ≡ lo + suc n = omega arith in
    ap (λ rs. reads_of (f lo) ++ rs) (reads_push f (suc lo) n ∙ ap (λ i. reads_from f (suc lo) n ++ reads_of (f i)) z)
    ∙ sym (append_assoc (reads_of (f lo)) (reads_from f (suc lo) n) (reads_of (f (lo + suc n))))

-- the block at an end, and the others
near_next : {X : Type 0} (b : Bool) (f : ℕ → Result (List X) Error) (lo hi : ℕ) → lo < hi
    → seen_from b (reads_between f lo hi) ≡ seen_from b (reads_of (f (index_at b lo hi))) ++ seen_from b (reads_between f (lo_at b lo) (hi_at b hi))
near_next false f lo hi h =
    let n : hi - lo ≡ suc (hi - (lo + 1)) = omega (arith, h) in
    let s : suc lo ≡ lo + 1 = omega arith in
    ap (reads_from f lo) n ∙ ap (λ i. reads_of (f lo) ++ reads_from f i (hi - (lo + 1))) s
near_next true f lo hi h =
    let n : hi - lo ≡ suc (hi - 1 - lo) = omega (arith, h) in
    let s : lo + (hi - 1 - lo) ≡ hi - 1 = omega (arith, h) in
    ap (λ k. reverse (reads_from f lo k)) n ∙ ap reverse (reads_push f lo (hi - 1 - lo) ∙ ap (λ i. reads_from f lo (hi - 1 - lo) ++ reads_of (f i)) s)
    ∙ reverse-append (reads_from f lo (hi - 1 - lo)) (reads_of (f (hi - 1)))

pub one_fewer : (b : Bool) (lo hi : ℕ) → lo < hi → (hi_at b hi - lo_at b lo) + 1 ≡ hi - lo
one_fewer true lo hi h = omega (arith, h)
one_fewer false lo hi h = omega (arith, h)

pub index_inside : (b : Bool) (lo hi n : ℕ) → lo < hi → hi ≤ n → index_at b lo hi < n
index_inside true lo hi n h k = omega (arith, h, k)
index_inside false lo hi n h k = omega (arith, h, k)

hi_inside : (b : Bool) (hi n : ℕ) → hi ≤ n → hi_at b hi ≤ n
hi_inside true hi n h = omega (arith, h)
hi_inside false hi n h = h

pub no_items : {X : Type 0} (xs : List X) → nat_lt 0 (length xs) ≡ false → xs ≡ []
no_items [] e = refl
no_items (x ∷ xs) e = absurd (let most : length (x ∷ xs) ≤ 0 = ltb-false 0 (length (x ∷ xs)) e in omega arith)

none_left : {X : Type 0} (f : ℕ → Result (List X) Error) (lo hi : ℕ) → hi ≤ lo → reads_between f lo hi ≡ []
none_left f lo hi h =
    let z : hi - lo ≡ 0 = omega (arith, h) in
    ap (reads_from f lo) z

pub both_some : {A : Type 0} {P Q R : A → Type 0} (o : Option A) → ((a : A) → P a → Q a → R a) → IfSome o P → IfSome o Q → IfSome o R
both_some None h p q = tt
both_some (Some a) h p q = h a p q

pub some_as : {A : Type 0} {P Q : A → Type 0} (o : Option A) → ((a : A) → P a → Q a) → IfSome o P → IfSome o Q
some_as None h p = tt
some_as (Some a) h p = h a p

abbrev pub next_ends : {X : Type 0} → Bool → Ends X → List X → Ends X
next_ends b c items = record { near = items; lo = lo_at b c.lo; hi = hi_at b c.hi; far = c.far }

module _ {X : Type 0} (b : Bool) (f : ℕ → Result (List X) Error) where
  -- what is left, where the block at the end has no item left: the next block and what is after it
  left_split : (c : Ends X) → c.near ≡ [] → c.lo < c.hi
      → reads_left b f c ≡ seen_from b (reads_of (f (index_at b c.lo c.hi))) ++ (seen_from b (reads_between f (lo_at b c.lo) (hi_at b c.hi)) ++ seen_from b (map Ok c.far))
  left_split c none more =
      ap (λ rs. rs ++ (seen_from b (reads_between f c.lo c.hi) ++ seen_from b (map Ok c.far))) (ap (λ xs. seen_from b (map Ok xs)) none ∙ seen_nil b)
      ∙ ap (λ rs. rs ++ seen_from b (map Ok c.far)) (near_next b f c.lo c.hi more)
      ∙ append_assoc (seen_from b (reads_of (f (index_at b c.lo c.hi)))) (seen_from b (reads_between f (lo_at b c.lo) (hi_at b c.hi))) (seen_from b (map Ok c.far))

  left_next : (c : Ends X) (items : List X) → c.near ≡ [] → c.lo < c.hi → f (index_at b c.lo c.hi) ≡ Ok items → reads_left b f (next_ends b c items) ≡ reads_left b f c
  left_next c items none more read =
      ap (λ x. seen_from b (reads_of x) ++ (seen_from b (reads_between f (lo_at b c.lo) (hi_at b c.hi)) ++ seen_from b (map Ok c.far))) (sym read)
      ∙ sym (left_split c none more)

module _ {S X : Type 0} (r : Reading S X) (laws : AreBlocks r) (b : Bool) where
  -- blocks were opened, and what is left is the same
  pub record IsReached (s : S) (old : Ends X) (t : S) (new : Ends X) : Type 0 where
    pub goes : r.Goes s ((old.hi - old.lo) - (new.hi - new.lo)) t
    pub opened : new.hi - new.lo ≤ old.hi - old.lo
    pub ends : AreEnds r t new
    pub most : most_left r.most new ≤ most_left r.most old
    pub exact : IfSome (r.read s) (λ read. reads_left b read new ≡ reads_left b read old)

  all_at : (s t : S) (n : ℕ) (xs : List X) → r.Goes s n t → AllAdmitted r s xs → AllAdmitted r t xs
  all_at s t n xs g a = subst (λ f. AllByRecursion (λ x. f x ≡ true) xs) (sym (laws.same_admits s t n g)) a

  more_most : (m k n : ℕ) → k + 1 ≡ n → m * n ≡ m * k + m
  more_most m k n e = ap (λ i. m * i) (sym e) ∙ omega arith

  next_goes : (a k n : ℕ) → k + 1 ≡ n → n ≤ a → (a - n) + 1 ≡ a - k
  next_goes a k n e h = omega (arith, e, h)

  next_inside : (t u : S) (c : Ends X) → r.Goes t 1 u → AreEnds r t c → hi_at b c.hi ≤ r.len u
  next_inside t u c g a = subst (λ n. hi_at b c.hi ≤ n) (sym (laws.same_len t u 1 g)) (hi_inside b c.hi (r.len t) a.inside)

  -- and after one more
  next_reached : {T : Type 0} (s : S) (old : Ends X) (t : S) (c : Ends X) (u : S) (items : List X) (o : T) → IsReached s old t c → c.near ≡ [] → c.lo < c.hi
      → Opens r t (index_at b c.lo c.hi) (Ok o) u items → IsReached s old u (next_ends b c items)
  next_reached s old t c u items o w none more step =
      let k = hi_at b c.hi - lo_at b c.lo in
      let fewer : k + 1 ≡ c.hi - c.lo = one_fewer b c.lo c.hi more in
      let opened = w.opened in
      record {
        goes = subst (λ n. r.Goes s n u) (next_goes (old.hi - old.lo) k (c.hi - c.lo) fewer opened) (laws.goes_on s t u ((old.hi - old.lo) - (c.hi - c.lo)) 1 w.goes step.goes);
        opened = omega (arith, fewer, opened);
        ends = record {
          inside = next_inside t u c step.goes w.ends;
          near = all_at t u 1 items step.goes step.all;
          far = all_at t u 1 c.far step.goes w.ends.far;
        };
        most =
            let few = step.few in
            let most = w.most in
            let z : length c.near ≡ 0 = ap length none in
            let p = more_most r.most k (c.hi - c.lo) fewer in
            omega (arith, few, most, z, p);
        exact = both_some (r.read s) (λ read left opens. left_next b read c items none more opens ∙ left) w.exact
            (subst (λ f. IfSome f (λ read. read (index_at b c.lo c.hi) ≡ Ok items)) (laws.same_read s t _ w.goes) step.exact);
      }

  abbrev at : List X → ℕ → ℕ → List X → Ends X
  at near lo hi far = record { near = near; lo = lo; hi = hi; far = far }

  pub reached_next : {T : Type 0} (s : S) (old : Ends X) (t : S) (c : Ends X) (u : S) (items : List X) (o : T) (i lo hi : ℕ) → i ≡ index_at b c.lo c.hi → lo ≡ lo_at b c.lo → hi ≡ hi_at b c.hi
      → IsReached s old t c → c.near ≡ [] → c.lo < c.hi → Opens r t i (Ok o) u items → IsReached s old u (at items lo hi c.far)
  reached_next s old t c u items o i lo hi e f g w none more step =
      subst (λ h. IsReached s old u (at items lo h c.far)) (sym g)
      (subst (λ l. IsReached s old u (at items l (hi_at b c.hi) c.far)) (sym f)
      (next_reached s old t c u items o w none more (subst (λ j. Opens r t j (Ok o) u items) e step)))

  next_refused : {T : Type 0} (s : S) (old : Ends X) (t : S) (c : Ends X) (u : S) (items : List X) (e : Error) → IsReached s old t c → c.near ≡ [] → c.lo < c.hi
      → Opens {T = T} r t (index_at b c.lo c.hi) (Err e) u items → IsReady {T = T} r b s old (Err e) u (next_ends b c items)
  next_refused s old t c u items e w none more step =
      let k = hi_at b c.hi - lo_at b c.lo in
      let fewer : k + 1 ≡ c.hi - c.lo = one_fewer b c.lo c.hi more in
      let opened = w.opened in
      record {
        goes = subst (λ n. r.Goes s n u) (next_goes (old.hi - old.lo) k (c.hi - c.lo) fewer opened) (laws.goes_on s t u ((old.hi - old.lo) - (c.hi - c.lo)) 1 w.goes step.goes);
        opened = omega (arith, fewer, opened);
        ends = record {
          inside = next_inside t u c step.goes w.ends;
          near = all_at t u 1 items step.goes step.all;
          far = all_at t u 1 c.far step.goes w.ends.far;
        };
        errs = laws.errs_later s t u _ e w.goes step.errs;
        most =
            let few = step.few in
            let most = w.most in
            let z : length c.near ≡ 0 = ap length none in
            let p = more_most r.most k (c.hi - c.lo) fewer in
            omega (arith, few, most, z, p);
        done = tt;
        exact = both_some (r.read s) (λ read left fails. (read (index_at b c.lo c.hi), seen_from b (reads_between read (lo_at b c.lo) (hi_at b c.hi)) ++ seen_from b (map Ok c.far), sym left ∙ left_split b read c none more, laws.fails_later s t u _ (read (index_at b c.lo c.hi)) e w.goes fails)) w.exact
            (subst (λ f. IfSome f (λ read. r.Fails t u (read (index_at b c.lo c.hi)) e)) (laws.same_read s t _ w.goes) step.exact);
      }

  pub reached_refused : {T : Type 0} (s : S) (old : Ends X) (t : S) (c : Ends X) (u : S) (items : List X) (e : Error) (i lo hi : ℕ) → i ≡ index_at b c.lo c.hi → lo ≡ lo_at b c.lo → hi ≡ hi_at b c.hi
      → IsReached s old t c → c.near ≡ [] → c.lo < c.hi → Opens {T = T} r t i (Err e) u items → IsReady {T = T} r b s old (Err e) u (at items lo hi c.far)
  reached_refused {T = T} s old t c u items err i lo hi e f g w none more step =
      subst (λ h. IsReady {T = T} r b s old (Err err) u (at items lo h c.far)) (sym g)
      (subst (λ l. IsReady {T = T} r b s old (Err err) u (at items l (hi_at b c.hi) c.far)) (sym f)
      (next_refused s old t c u items err w none more (subst (λ j. Opens {T = T} r t j (Err err) u items) e step)))

  -- ---- an item is taken
  taken_left : (read : ℕ → Result (List X) Error) (c : Ends X) (x : X) (rest : List X) → seen_from b c.near ≡ x ∷ seen_from b rest → reads_left b read c ≡ Ok x ∷ reads_left b read (at rest c.lo c.hi c.far)
  taken_left read c x rest e =
      let more = seen_from b (reads_between read c.lo c.hi) ++ seen_from b (map Ok c.far) in
      ap (λ rs. rs ++ more) (seen_map b Ok c.near ∙ ap (map Ok) e ∙ ap (λ rs. Ok x ∷ rs) (sym (seen_map b Ok rest)))

  none_near : (xs : List X) → seen_from b xs ≡ [] → xs ≡ []
  none_near xs e = sym (seen_twice b xs) ∙ ap (seen_from b) e ∙ seen_nil b

  left_none : (read : ℕ → Result (List X) Error) (near far : List X) (lo hi : ℕ) → near ≡ [] → far ≡ [] → hi ≤ lo → reads_left b read (at near lo hi far) ≡ []
  left_none read near far lo hi none empty over =
      let z : seen_from b (map Ok near) ≡ [] = ap (λ xs. seen_from b (map Ok xs)) none ∙ seen_nil b in
      let y : seen_from b (map Ok far) ≡ [] = ap (λ xs. seen_from b (map Ok xs)) empty ∙ seen_nil b in
      let m : seen_from b (reads_between read lo hi) ≡ [] = ap (seen_from b) (none_left read lo hi over) ∙ seen_nil b in
      λ i. z i ++ (m i ++ y i)

  first_admitted : (s : S) (x : X) (xs ys : List X) → seen_from b xs ≡ x ∷ ys → AllAdmitted r s xs → r.admits s x ≡ true
  first_admitted s x xs ys e a = (subst (AllByRecursion (λ x. r.admits s x ≡ true)) e (all_seen b (λ x. r.admits s x ≡ true) xs a)).0

  taken_fewer : (m : ℕ) (old c : Ends X) (result : Option X) (rest : List X) → YieldsFirst (seen_from b) c.near result rest → (c.near ≡ [] → (c.hi ≤ c.lo) × (c.far ≡ [])) → most_left m c ≤ most_left m old → IsFewer (most_left m old) (most_left m (at rest c.lo c.hi c.far)) result
  taken_fewer m old c None rest step done less =
      let d = done (none_near c.near step.0) in
      let over = d.0 in
      let z : length rest ≡ 0 = ap length (none_near rest step.1) in
      let y : length c.far ≡ 0 = ap length d.1 in
      let n : c.hi - c.lo ≡ 0 = omega (arith, over) in
      let p : m * (c.hi - c.lo) ≡ 0 = ap (λ k. m * k) n ∙ omega arith in
      omega (arith, z, y, p)
  taken_fewer m old c (Some x) rest step done less =
      let e : length (seen_from b c.near) ≡ suc (length (seen_from b rest)) = ap length step in
      let n = seen_length b c.near in
      let k = seen_length b rest in
      omega (arith, e, n, k, less)

  taken_exact : (read : ℕ → Result (List X) Error) (c : Ends X) (result : Option X) (rest : List X) → YieldsFirst (seen_from b) c.near result rest → (c.near ≡ [] → (c.hi ≤ c.lo) × (c.far ≡ []))
      → GivesNext (reads_left b read c) (reads_left b read (at rest c.lo c.hi c.far)) result
  taken_exact read c None rest step done =
      let none = none_near c.near step.0 in
      let d = done none in
      (left_none read c.near c.far c.lo c.hi none d.1 d.0, left_none read rest c.far c.lo c.hi (none_near rest step.1) d.1 d.0)
  taken_exact read c (Some x) rest step done = taken_left read c x rest step

  admitted_by : (s t : S) (n : ℕ) (c : Ends X) (result : Option X) (rest : List X) → r.Goes s n t → AreEnds r t c → YieldsFirst (seen_from b) c.near result rest → IfSome result (λ x. r.admits s x ≡ true)
  admitted_by s t n c None rest g a step = tt
  admitted_by s t n c (Some x) rest g a step = ap (λ f. f x) (sym (laws.same_admits s t n g)) ∙ first_admitted t x c.near (seen_from b rest) step a.near

  module _ (Lacks : Error → Type 0) where
    pub taken : {T : Type 0} (s : S) (old : Ends X) (t : S) (c : Ends X) (o : T) (result : Result (Option X) Error) (rest : List X) → IsReady {T = T} r b s old (Ok o) t c → TakesEnd b Lacks c.near result rest
        → TakesNear r Lacks b s old result t (at rest c.lo c.hi c.far)
    taken s old t c o (Ok x) rest w step = record {
      goes = w.goes;
      opened = w.opened;
      ends = record { inside = w.ends.inside; near = all_rest b (λ x. r.admits t x ≡ true) c.near rest step.rest w.ends.near; far = w.ends.far };
      errs = tt;
      admitted = admitted_by s t _ c x rest w.goes w.ends step.first;
      fewer = taken_fewer r.most old c x rest step.first w.done w.most;
      exact = some_as (r.read s) (λ read left. subst (λ rs. GivesNext rs (reads_left b read (at rest c.lo c.hi c.far)) x) left (taken_exact read c x rest step.first w.done)) w.exact;
    }
    taken s old t c o (Err e) rest w step = record {
      goes = w.goes;
      opened = w.opened;
      ends = record { inside = w.ends.inside; near = all_rest b (λ x. r.admits t x ≡ true) c.near rest step.rest w.ends.near; far = w.ends.far };
      errs = inr step.lacks;
      admitted = tt;
      fewer = tt;
      exact = some_as (r.read s) (λ read left. inr step.lacks) w.exact;
    }

    pub refused : {T : Type 0} (s : S) (old : Ends X) (t : S) (c : Ends X) (e : Error) → IsReady {T = T} r b s old (Err e) t c → TakesNear r Lacks b s old (Err e) t c
    refused s old t c e w = record {
      goes = w.goes;
      opened = w.opened;
      ends = w.ends;
      errs = inl w.errs;
      admitted = tt;
      fewer = tt;
      exact = some_as (r.read s) (λ read fails. inl fails) w.exact;
    }
