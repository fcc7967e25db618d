use Rattle.zy_verdict.proofs.CourseLemmas.{course_of, some_course}
use Rattle.zy_verdict.proofs.laws.an_explained_recording_has_courses.Goals as goal

pub returns : goal.returns
returns c = record {
  course = λ r cuts entries explained key. course_of r cuts entries explained key;
  some = λ r explained key. some_course r explained key;
}
