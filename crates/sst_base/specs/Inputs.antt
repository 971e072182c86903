-- What reading known bytes returns and leaves.
use Rattle.std.specs.Prelude.{◌≡◌, List, ℕ, ⊤, Option, Some, Result, Ok, Err}
use Rattle.sst_base.specs.declared.error.Error.{Error}
use Rattle.sst_base.specs.declared.error.Error.TheVariants.{Io, Memory}

-- The result and the bytes left are those of reading; a reader that isn't over memory may have failed instead.
abbrev pub Reads : {A : Type 0} → Type 0 → Result A Error → Option (List ℕ) → Result (A × List ℕ) Error → Type 0
Reads over_memory (Ok x) left read = (rest : List ℕ) × (left ≡ Some rest) × (read ≡ Ok (x, rest))
Reads over_memory (Err Io) left read = over_memory → read ≡ Err Io
Reads over_memory (Err e) left read = read ≡ Err e

-- the same where an allocation may have failed instead
abbrev pub ReadsAllocating : {A : Type 0} → Type 0 → Result A Error → Option (List ℕ) → Result (A × List ℕ) Error → Type 0
ReadsAllocating over_memory (Ok x) left read = Reads over_memory (Ok x) left read
ReadsAllocating over_memory (Err Memory) left read = ⊤
ReadsAllocating over_memory (Err e) left read = Reads over_memory (Err e) left read

-- a result is this one, unless an allocation failed
abbrev pub Gives : {A : Type 0} → Result A Error → Result A Error → Type 0
Gives (Err Memory) answer = ⊤
Gives r answer = r ≡ answer

-- a result is this one, unless an allocation failed, or a reader that isn't over memory
abbrev pub GivesOrFails : {A : Type 0} → Type 0 → Result A Error → Result A Error → Type 0
GivesOrFails over_memory (Err Memory) answer = ⊤
GivesOrFails over_memory (Err Io) answer = over_memory → answer ≡ Err Io
GivesOrFails over_memory r answer = r ≡ answer
