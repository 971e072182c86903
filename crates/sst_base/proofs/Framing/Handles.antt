-- Reading a number of a handle, byte by byte.
use Rattle.std.proofs.Common.{◌≡◌, ℕ, List, [], ◌∷◌, take, drop, refl, arith, sym, subst, Result, Ok, Err, Option}
use Rattle.std.proofs.lemmas.Bool.Decides.{nat_tests}
use Rattle.sst_base.specs.BlockHandle.{handle_number_at}
use Rattle.sst_base.specs.Header.{bytes_at}
use Rattle.sst_base.specs.Inputs.{Reads}
use Rattle.sst_base.specs.declared.error.Error.{Error}
use Rattle.sst_base.specs.declared.error.Error.TheVariants.{Io}

one_there : (b : ℕ) (bs : List ℕ) → bytes_at 1 (b ∷ bs) ≡ Ok (take 1 (b ∷ bs), drop 1 (b ∷ bs))
one_there b bs = search (arith, nat_tests)

unread_at : (m : Type 0) (e : Error) (left : Option (List ℕ)) (max : ℕ) (bytes : List ℕ) → Reads {A = List ℕ} m (Err e) left (bytes_at 1 bytes) → Reads {A = ℕ} m (Err e) left (handle_number_at max bytes)
unfolding handle_number_at
unread_at m Io left max [] h = λ k. refl
unread_at m Io left max (b ∷ bs) h = λ k. (let there = one_there b bs in let refused = h k in cc)
unread_at m e left max [] h = cc (h)
unread_at m e left max (b ∷ bs) h = cc (one_there b bs, h)

-- where the next byte isn't read, the number isn't either
pub byte_unread : (m : Type 0) (r : Result ℕ Error) (e : Error) (left : Option (List ℕ)) (max : ℕ) (bytes : List ℕ) → r ≡ Err e → Reads {A = List ℕ} m (Err e) left (bytes_at 1 bytes) → Reads m r left (handle_number_at max bytes)
byte_unread m r e left max bytes s h =
    let P : Result ℕ Error → Type 0 = λ q. Reads m q left (handle_number_at max bytes) in
    subst P (sym s) (unread_at m e left max bytes h)
