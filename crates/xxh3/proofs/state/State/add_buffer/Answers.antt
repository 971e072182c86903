use Rattle.std.proofs.Common.{refl}
use Rattle.xxh3.proofs.Keeping.{takes_buffer}
use Rattle.xxh3.proofs.state.State.add_buffer.Goals as goal

pub returns-clause-held : goal.returns-clause-held
returns-clause-held c = λ message n h.
    takes_buffer c.args.self.now _ message n h c.copy_from_slice.new.self c.requires (rw c.secret.ensures at c.with_stripes.ensures.value) c.put.ensures
    c.copy_from_slice.ensures.after c.copy_from_slice.ensures.len refl refl refl refl
