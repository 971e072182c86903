use Rattle.std.proofs.Common.{rules, ◌≡◌, ℕ, List, Bor, Option, Some, map, subst, sym}
use Rattle.sst_calls.specs.Filters.{IsFilterBuild}
use Rattle.sst_calls.specs.Given.{AreKept}
use Rattle.sst_calls.specs.Hashing.{IsHashed, hash64_of, hash_given}
use Rattle.sst_calls.specs.declared.hash.Hash.{Hash}
use Rattle.sst_calls.specs.declared.hash.Hash.TheVariants.{Poly31}
use Rattle.sst_calls.proofs.filter.build_by.Goals as goal

pub returns-in-Some-Poly31 : goal.returns-in-Some-Poly31
returns-in-Some-Poly31 c =
    let s = c.build-in-Some-Poly31.result in
    let new = c.build-in-Some-Poly31.new in
    let out = c.args.out.now in
    let len = c.args.out_len.now in
    let says : Option Hash → Type 0 = λ o. IsHashed o s (AreKept out new.out len new.out_len) (λ h. IsFilterBuild c.args.bits_per_key (map (λ (k : Bor (List ℕ)). hash64_of h k.now) c.args.keys.now) out new.out len new.out_len s) in
    let is : hash_given c.args.hash ≡ Some Poly31 = search rules in
    subst says (sym is) c.build-in-Some-Poly31.ensures
