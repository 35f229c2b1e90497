use Rattle.lens_trials.proofs.copies.rewritten.Goals as goal

pub write_lens-requires : goal.write_lens-requires
write_lens-requires c = (c.args.file.now, c.in_ok-program.ensures.read (λ e. let f : ⊥ = cc in f))
