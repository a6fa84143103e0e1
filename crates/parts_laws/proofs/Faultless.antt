-- That made parts have no fault.
pub mod Flows
pub mod NodeMeetings
pub mod Pointers
pub mod Features
pub mod Whole
