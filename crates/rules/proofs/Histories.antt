-- A run over two lists is a run over the second from where the first ended.
use Rattle.std.proofs.Common.{◌≡◌, List, [], ◌∷◌, ◌++◌, refl}
use Rattle.rules.specs.Frames.{Frame}
use Rattle.rules.specs.Histories.{Reply, run_of}

pub run_append : {State : Type 0} (reply : State → Frame → Reply State) (w : State) (fs gs : List Frame)
    → run_of reply w (fs ++ gs) ≡ run_of reply (run_of reply w fs) gs
run_append reply w [] gs = refl
run_append reply w (f ∷ fs) gs = run_append reply (reply w f).left fs gs
