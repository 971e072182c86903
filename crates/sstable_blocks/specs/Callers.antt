-- Words for the contracts of callers, so that one line imports what most of them name.
use Rattle.std.specs.Prelude.{◌≡◌, ◌⊎◌, ◌≤◌, ℕ, List, length, map, Option, Result, IfOk, IfErr}
use Rattle.sst_base.specs.Entry.{Entry, plain}
use Rattle.sst_base.specs.declared.error.Error.{Error}
use Rattle.sst_base.specs.declared.error.Error.TheVariants.{TooLong, Memory}
use Rattle.sst_block_core.specs.Entries.{entries}
use Rattle.sst_block_core.specs.Kind.{IsOrdered}
use Rattle.sst_block_core.specs.Window.{first_match}

-- a block can be made of the entries: there is one, and no entry sorts before its predecessor
abbrev pub IsEncodable : List Entry → Type 0
IsEncodable items = (1 ≤ length items) × IsOrdered entries items

-- the newest version of the key strictly below the sequence number among the entries of a block, `None` where there is none
abbrev pub newest : List Entry → List ℕ → ℕ → Option Entry
newest items key seqno = first_match entries key seqno (map plain items)

-- a read of the entries of a block gives the newest version of the key, or an error
abbrev pub GivesNewest : {E : Type 0} → Result (Option Entry) E → List Entry → List ℕ → ℕ → Type 0
GivesNewest result items key seqno = IfOk result (λ found. found ≡ newest items key seqno)

-- a result that is an error is one of those with which encoding ends
abbrev pub FailsAsEncoding : {A : Type 0} → Result A Error → Type 0
FailsAsEncoding result = IfErr result (λ e. (e ≡ TooLong) ⊎ (e ≡ Memory))
