use Rattle.std.proofs.Common.{rules, arith}
use Rattle.its_lines.proofs.serving.answer_line_within.Goals as goal
use Rattle.its_lines.proofs.serving.answer_line_within.Goals.{else-line-via-else-line}
use Rattle.its_lines.proofs.serving.answer_line_within.Goals.{else-line-via-then-line+else-room-lt-LONGEST_SECURED_FRAME}

pub returns-then-not-allow-clause-room : goal.returns-then-not-allow-clause-room
returns-then-not-allow-clause-room c = λ short asks.
    let secured = c.in_ok-line.ensures.secured.1 asks in
    elim c.else-line.branch [
      | else-line-via-then-line+else-room-lt-LONGEST_SECURED_FRAME w ↦ search rules
      | else-line-via-else-line w ↦ search rules
    ]
