use Rattle.sst_parts.proofs.Checks.PartCheckLaws.{accepted_is_parted}
use Rattle.sst_parts.proofs.laws.accepted_parted_is_sound.Goals as goal

pub returns : goal.returns
returns c = λ hs bytes top s small short e. accepted_is_parted hs bytes small
    (λ p items bytes_in fits. (c.index_check_accepts_encodings.ensures p items bytes_in fits).0)
    (λ file h run file_small index_short filter_short is. c.accepted_run_is_sound.ensures hs file h run file_small index_short filter_short is)
    top s short e
