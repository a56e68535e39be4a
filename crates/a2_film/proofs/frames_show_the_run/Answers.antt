use Rattle.a2_film.proofs.FrameLaws as frames
use Rattle.a2_film.proofs.frames_show_the_run.Goals as goal

pub returns : goal.returns
returns c = frames.frames_show_the_run
