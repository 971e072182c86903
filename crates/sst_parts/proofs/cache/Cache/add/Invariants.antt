use Rattle.sst_parts.proofs.cache.Cache.add.Given as goal

abbrev pub ghost-push_chosen : goal.ghost-push_chosen
ghost-push_chosen g a = g.S.FrameSource.bytes a.shown.now
