pub mod Sections
pub mod Reading
pub mod WhatWasWritten
pub mod WhatWasRead
pub mod RoundTrips
pub mod OneOutcome
