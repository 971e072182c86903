-- Reading the footer of a part, and the handles of an index of parts.
use Rattle.std.proofs.Common.{◌≡◌, ℕ, zero, suc, ◌+◌, ◌-◌, ◌<◌, ◌≤◌, ◌^◌, List, [], ◌∷◌, length, take, drop, arith, sym, ◌∙◌, ap, subst, true, false, cond, inl, inr, Option, Some, None, IfSome, OnOk, Result, Ok, Err}
use Rattle.std.specs.Prelude.{nat_le, nat_lt}
use Rattle.std.proofs.lemmas.Bool.{cases_Bool}
use Rattle.std.proofs.lemmas.Bool.Decides.{nat_tests}
use Rattle.std.specs.List.{AllByRecursion, slice_get}
use Rattle.std.specs.Option.{option_map}
use Rattle.sstable_blocks.specs.Prelude.{HandleParts, Handle, handles, EndFits, IsIndexBlock}
use Rattle.sstable_blocks.specs.Results.{◌>>=◌, Error, Truncated, BadHandle}
use Rattle.sst_parts.specs.Parts.{part_footer, places_in}
use Rattle.sstable_blocks.specs.Footer.{footer_handles}
use Rattle.sstable_blocks.specs.Lookup.{handle_for, place_for}
use Rattle.sstable_blocks.specs.Opened.{range_of}
use Rattle.sstable_blocks.specs.RunReading.{range_at}
use Rattle.sstable_blocks.specs.SourceLaws.{source_fails}
use Rattle.sstable_blocks.specs.Sources.{FailsAs, GivesOr}
use Rattle.sstable_blocks.specs.declared.run.RunHandles.{RunHandles}
use Rattle.sstable_blocks.specs.FooterLaws.{gives_same}

pub on_ok : {X : Type 0} (r : Result X Error) (P : Type 0) → P → OnOk r P
on_ok (Ok x) P p = p
on_ok (Err e) P p = tt

-- a part without room for a footer
pub short : (o : Option (List ℕ)) (g : HandleParts) (P R : Type 0) → g.size < 24 → IfSome o (λ all. GivesOr {X = RunHandles} {Y = RunHandles} P R (λ h. h) (Err Truncated) (places_in all g))
unfolding places_in
short None g P R small = tt
short (Some all) g P R small =
    let test : nat_lt g.size 24 ≡ true = grind (arith, nat_tests) in
    λ other. inr (ap (λ b. cond b (Err Truncated) (range_at all (part_footer g) >>= footer_handles)) test)

-- with room the footer is where it is
pub places_by : (all : List ℕ) (g p : HandleParts) → 24 ≤ g.size → p.offset ≡ g.offset + (g.size - 24) → p.size ≡ 24 → places_in all g ≡ (range_at all p >>= footer_handles)
unfolding places_in
places_by all g p long at size =
    let test : nat_lt g.size 24 ≡ false = grind (arith, nat_tests) in
    ap (λ b. cond b (Err Truncated) (range_at all (part_footer g) >>= footer_handles)) test
    ∙ sym (ap (λ (n : ℕ). range_at all (record { offset = n; size = p.size }) >>= footer_handles) at ∙ ap (λ (n : ℕ). range_at all (record { offset = g.offset + (g.size - 24); size = n }) >>= footer_handles) size)

pub footer_fails : (o : Option (List ℕ)) (g p : HandleParts) (P R : Type 0) (e : Error) → 24 ≤ g.size → p.offset ≡ g.offset + (g.size - 24) → p.size ≡ 24 → IfSome o (λ all. FailsAs P R (range_at all p) e) → IfSome o (λ all. FailsAs P R (places_in all g) e)
footer_fails None g p P R e long at size fails = tt
footer_fails (Some all) g p P R e long at size fails =
    let by = places_by all g p long at size in
    λ other. elim (fails other) [
      | inl failed ↦ inl (source_fails (λ p. p) (λ t. t) (λ bad. by ∙ ap (λ q. q >>= footer_handles) bad) failed)
      | inr same ↦ inr (by ∙ ap (λ q. q >>= footer_handles) same)
    ]

pub footer_read : (o : Option (List ℕ)) (g p : HandleParts) (footer bytes : List ℕ) (r : Result RunHandles Error) (P R : Type 0) → 24 ≤ g.size → p.offset ≡ g.offset + (g.size - 24) → p.size ≡ 24
    → IfSome o (λ all. range_at all p ≡ Ok footer) → bytes ≡ footer → r ≡ footer_handles bytes → IfSome o (λ all. GivesOr P R (λ h. h) r (places_in all g))
footer_read None g p footer bytes r P R long at size found is e = tt
footer_read (Some all) g p footer bytes r P R long at size found is e =
    gives_same P R r (places_in all g) (places_by all g p long at size ∙ ap (λ q. q >>= footer_handles) found ∙ ap footer_handles (sym is) ∙ sym e)

-- a range that is read is inside
range_inside : (all : List ℕ) (h : HandleParts) (xs : List ℕ) → range_at all h ≡ Ok xs → h.offset + h.size ≤ length all
unfolding range_at
range_inside all h xs e = elim (cases_Bool (nat_le (h.offset + h.size) (length all))) [
  | inl holds ↦ grind (arith, nat_tests)
  | inr fails ↦ (
      let wrong : ◌≡◌ {A = Result (List ℕ) Error} (Err BadHandle) (Ok xs) = sym (ap (λ b. cond b (Ok (take h.size (drop h.offset all))) (Err BadHandle)) fails) ∙ e in
      cc)
]

pub part_inside : (o : Option (List ℕ)) (g p : HandleParts) (footer : List ℕ) → 24 ≤ g.size → p.offset ≡ g.offset + (g.size - 24) → p.size ≡ 24 → IfSome o (λ all. range_at all p ≡ Ok footer) → IfSome o (λ all. g.offset + g.size ≤ length all)
part_inside None g p footer long at size found = tt
part_inside (Some all) g p footer long at size found = let i = range_inside all p footer found in omega arith

-- the frames of the handles of an index end below 2^64
one_fits : (hs : List Handle) (n : ℕ) → AllByRecursion EndFits hs → IfSome (slice_get hs n) EndFits
one_fits [] n fits = tt
one_fits (h ∷ hs) zero fits = fits.0
one_fits (h ∷ hs) (suc n) fits = one_fits hs n fits.1

range_fits : (o : Option Handle) (r : Option HandleParts) → IfSome o EndFits → r ≡ option_map range_of o → IfSome r (λ g. g.offset + g.size < 2 ^ 64)
range_fits None r fits is = subst (λ x. IfSome x (λ (g : HandleParts). g.offset + g.size < 2 ^ 64)) (sym is) tt
range_fits (Some h) r fits is = subst (λ x. IfSome x (λ (g : HandleParts). g.offset + g.size < 2 ^ 64)) (sym is) fits

pub end_fits : (p : List ℕ) (hs : List Handle) (q : ℕ) (needle : List ℕ) (seqno : ℕ) (r : Option HandleParts) → IsIndexBlock p hs q → r ≡ option_map range_of (handle_for handles needle seqno hs) → IfSome r (λ g. g.offset + g.size < 2 ^ 64)
end_fits p hs q needle seqno r i is = range_fits (handle_for handles needle seqno hs) r (one_fits hs (place_for handles needle seqno hs) i.ends) is
