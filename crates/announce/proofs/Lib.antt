pub mod Making
pub mod Parting
pub mod Belonging
pub mod Entering
pub mod Announcements
