-- The errors of sources that pass on what another one gives.
use Rattle.std.proofs.Common.{◌≡◌, Option, None, Result, Ok, Err}
use Rattle.std.specs.Prelude.{OnOk}
use Rattle.std.specs.Result.{result_err}
use Rattle.sstable_blocks.specs.Results.{Error}
use Rattle.sst_sources.specs.ErrorLaws.{meets_over}
use Rattle.sst_sources.specs.Sources.{Left, MeetsNoMore, step_errors}
use Rattle.sst_tool.specs.Passed.{passed_on}

-- they meet no more than it does
pub passed_no_more : {X Z : Type 0} (r : Result Z Error) (a b : Option Error) (s t : Left X) → b ≡ result_err r → OnOk r (MeetsNoMore s t) → OnOk r (MeetsNoMore (passed_on s a) (passed_on t b))
passed_no_more (Err e) a b s t ends less = tt
passed_no_more (Ok x) a b s t ends less = meets_over a b (step_errors s) (step_errors t) ends less
