-- What steps and seeks of an iterator return, as results of a window.
use Rattle.std.specs.Prelude.{◌≡◌}
use Rattle.sst_block_core.specs.Window.{Window, Step, item, found}
use Rattle.sst_block_core.specs.Window as window
use Rattle.sst_block_core.specs.declared.table.answer.Answer.{Answer}
use Rattle.sst_block_core.specs.declared.table.answer.Answer.TheVariants.{Found, Item}

-- a result, as a step of a window gives it
abbrev pub answer_of : {X : Type 0} → Answer X → window.Answer X
answer_of (Found b) = found b
answer_of (Item x) = item x

-- a call moves the window and returns a result, as a step says
abbrev pub Performs : {X : Type 0} → Step X → Window X → Answer X → Window X → Type 0
Performs {X} step s answer t = ◌≡◌ {A = Window X × window.Answer X} (t, answer_of answer) (step s)
