-- What the results of steps from both ends give together, and what steps from the back cost.
use Rattle.std.specs.Prelude.{ℕ, zero, suc, ◌+◌, List, [], ◌∷◌, ◌++◌, Option, Some, None, IsSome}
use Rattle.std.specs.Option.{option_to_list}
use Rattle.sst_block_core.specs.Window.{Answer, item, found}
use Rattle.sst_block_core.specs.Backs.{back_cost}
use Rattle.sst_block_core.specs.declared.table.data_block.ops.Op.{Op}
use Rattle.sst_block_core.specs.declared.table.data_block.ops.Op.TheVariants as entry_ops
use Rattle.sst_block_core.specs.declared.table.index_block.ops.IndexOp.{IndexOp}
use Rattle.sst_block_core.specs.declared.table.index_block.ops.IndexOp.TheVariants as index_ops

-- the end from which a step takes
pub data End : Type 0 where
  front : End
  back : End

-- the end from which an operation on entries takes, if it is no seek
abbrev pub op_end : Op → Option End
op_end entry_ops.Next = Some front
op_end entry_ops.NextBack = Some back
op_end (entry_ops.Seek key) = None
op_end (entry_ops.SeekUpper key) = None
op_end (entry_ops.SeekExclusive key) = None
op_end (entry_ops.SeekUpperExclusive key) = None

-- the same for an operation on handles
abbrev pub index_end_of : IndexOp → Option End
index_end_of index_ops.Next = Some front
index_end_of index_ops.NextBack = Some back
index_end_of (index_ops.Seek key seqno) = None
index_end_of (index_ops.SeekUpper key seqno) = None

module _ {O : Type 0} (op_end : O → Option End) where
  -- no operation is a seek
  abbrev pub AreSteps : List O → Type 0
  AreSteps [] = Unit {0}
  AreSteps (op ∷ ops) = IsSome (op_end op) × AreSteps ops

-- the item of a result, if it has one
abbrev pub taken : {X : Type 0} → Answer X → List X
taken (item o) = option_to_list o
taken (found b) = []

-- the item of a result of a step from the front
abbrev pub given_front : {X : Type 0} → Option End → Answer X → List X
given_front (Some front) a = taken a
given_front o a = []

-- the item of a result of a step from the back, after the items of later steps
abbrev pub with_given_back : {X : Type 0} → List X → Option End → Answer X → List X
with_given_back later (Some back) a = later ++ taken a
with_given_back later o a = later

module _ {O X : Type 0} (op_end : O → Option End) where
  -- the items that steps from the front returned, in order
  abbrev pub fronts : List O → List (Answer X) → List X
  fronts (op ∷ ops) (a ∷ answers) = given_front (op_end op) a ++ fronts ops answers
  fronts ops answers = []

  -- the items that steps from the back returned, the last one first
  abbrev pub backs : List O → List (Answer X) → List X
  backs (op ∷ ops) (a ∷ answers) = with_given_back (backs ops answers) (op_end op) a
  backs ops answers = []

-- the most entries that an iteration from the back decodes, from an end down to the first, in a block of n items in
-- intervals of r
unfoldable pub back_walk_cost : ℕ → ℕ → ℕ → ℕ
back_walk_cost r n zero = 0
back_walk_cost r n (suc hi) = (1 + back_cost r n (suc hi)) + back_walk_cost r n hi
