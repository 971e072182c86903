-- What is left of a peekable iterator, and what its references do to it.
use Rattle.std.specs.Prelude.{◌≡◌, ◌≢◌, ◌⊎◌, List, [], Option, IsSome, ◌++◌, option_map, ⊤}
use Rattle.std.specs.Option.{option_to_list}
use Rattle.std.specs.Borrow.{RattleType, MutBor, Fml, follows_so}
use mathlib.Core.Option.{none}
use Rattle.sst_base.specs.declared.double_ended_peekable.DoubleEndedPeekable.{DoubleEndedPeekable}

-- the inner iterator
abbrev pub inner_of : {T I : Type 0} → DoubleEndedPeekable T I → I
inner_of p = p.iter

-- the item that is peeked at the front, if any
abbrev pub peeked_front : {T I : Type 0} → DoubleEndedPeekable T I → Option T
peeked_front p = p.front

-- the item that is peeked at the back, if any
abbrev pub peeked_back : {T I : Type 0} → DoubleEndedPeekable T I → Option T
peeked_back p = p.back

-- the items left: the peeked front item, if any, those of the inner iterator, and the peeked back item, if any
abbrev pub peekable_items : {T V I : Type 0} → (I → T → V) → (I → List V) → DoubleEndedPeekable T I → List V
peekable_items value_of items p = option_to_list (option_map (value_of p.iter) p.front) ++ (items p.iter ++ option_to_list (option_map (value_of p.iter) p.back))

-- the same peeked items over another inner iterator
abbrev pub with_inner : {T I : Type 0} → DoubleEndedPeekable T I → I → DoubleEndedPeekable T I
with_inner p iter = record p { iter = iter }

-- once the borrow ends, the iterator at s has the items left that it had, and what it had peeked at its other end
abbrev pub KeepsItems : {V T : Type 0} (R : RattleType) → (R.Denot → List V) → (R.Denot → Option T) → MutBor R.Denot → Fml
KeepsItems R items other s = follows_so R R s.ghost_name none (λ _ _. ⊤) (λ t. (items t ≡ items s.now) × (other t ≡ other s.now))

-- taking from the front leaves what is peeked at the back, unless nothing else is left
abbrev pub LeavesBack : {T V I : Type 0} → (I → List V) → DoubleEndedPeekable T I → DoubleEndedPeekable T I → Type 0
LeavesBack items s t = IsSome s.front ⊎ (items s.iter ≢ []) → t.back ≡ s.back

-- taking from the back leaves what is peeked at the front, unless nothing else is left
abbrev pub LeavesFront : {T V I : Type 0} → (I → List V) → DoubleEndedPeekable T I → DoubleEndedPeekable T I → Type 0
LeavesFront items s t = IsSome s.back ⊎ (items s.iter ≢ []) → t.front ≡ s.front
